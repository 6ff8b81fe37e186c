-- What a stop leaves while an offer is admitted.
use Rattle.std.proofs.Common.{◌≡◌, inl, inr, ℕ, ◌+◌, List, [], ◌∷◌, ◌++◌, length, Some, subst, ◌∙◌}
use Rattle.relay_disk.specs.declared.disks.Disks.{Disks}
use Rattle.relay_disk.specs.Device.{DiskWords}
use Rattle.relay_disk.specs.Disks.{Images}
use Rattle.relay_spool.specs.Pair.{HasBodies}
use Rattle.relay_spool.specs.Spool.{AtEachMoment}
use Rattle.relay_routes.specs.declared.config.Config.{Config}
use Rattle.relay_server.specs.Dialogue.{Offered}
use Rattle.relay_book.specs.declared.change.Accept.{Accept}
use Rattle.relay_book.specs.declared.change.Change.{Change}
use Rattle.relay_book.specs.declared.change.Change.TheVariants as change
use Rattle.relay_book.specs.StandsFor.{StandsFor}
use Rattle.relay_records.specs.Records.{Kept, StandsForOrWith}
use Rattle.relay_node.specs.Acceptance.{acceptance_by}
use Rattle.relay_node.specs.Admission.{StandsForOrAccepts}
use Rattle.relay_node.specs.Node.{FitsIn}
use Rattle.relay_node.specs.Room.{HasRoom}

one_some : (first second : Change) → Some first ≡ Some second → second ≡ first
one_some first second e = cc

module _ {D : Type 0} (honest : Type 0) (words : DiskWords D) (config : Config) (changes : List Change) (peer : List ℕ) (at : ℕ) (offer : Offered) (old : Kept D) (number size : ℕ) (accept : Accept)
    (room : HasRoom (acceptance_by config peer number at) config.spool_limit size offer accept) (number_is : number ≡ length changes + 1) (size_is : size ≡ old.spool.size) (made : Change) (made_is : made ≡ change.Accept accept) where
  fits : FitsIn honest words config changes peer at old offer accept
  fits =
      subst (λ n. HasRoom (acceptance_by config peer n at) config.spool_limit old.spool.size offer accept) number_is
      (subst (λ n. HasRoom (acceptance_by config peer number at) config.spool_limit n offer accept) size_is room)

  image_accepts : (images : Images) → HasBodies (StandsForOrWith changes (Some made)) images → HasBodies (StandsForOrAccepts honest words config changes peer at offer old) images
  image_accepts images found =
      let stands : StandsForOrAccepts honest words config changes peer at offer old found.0 = elim (found.2) [
        | inl same ↦ inl same
        | inr more ↦ inr (accept, fits, subst (λ (c : Change). StandsFor found.0 (changes ++ c ∷ [])) (one_some made more.0 more.1 ∙ made_is) more.3)
      ] in
      (found.0, found.1, stands)

  -- a stop at any moment leaves the changes, or these with the offer's accept
  pub stop_accepts : (new : Disks D) → AtEachMoment words old.spool.disk new (HasBodies (StandsForOrWith changes (Some made))) → AtEachMoment words old.spool.disk new (HasBodies (StandsForOrAccepts honest words config changes peer at offer old))
  stop_accepts new stop = record {
    since = λ images first second. image_accepts images (stop.since images first second);
    now = λ images left. image_accepts images (stop.now images left);
  }
