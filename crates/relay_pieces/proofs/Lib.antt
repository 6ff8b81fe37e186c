mod SeamLemmas
