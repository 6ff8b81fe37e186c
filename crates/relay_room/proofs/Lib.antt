mod TimeLemmas
