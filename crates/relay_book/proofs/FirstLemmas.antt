-- A first body is a snapshot or the record of a first change, and never both.
use Rattle.std.proofs.Common.{◌≡◌, ◌⊎◌, ◌==◌, ◌||◌, inl, inr, ℕ, Bool, true, false, List, [], ◌∷◌, Result, Ok, Err, OnOk, sym, ap, ◌∙◌, subst, arith}
use Rattle.std.proofs.lemmas.Bool.{cases_Bool, eqb-true, false≢true}
use Rattle.relay_book.specs.declared.version.SnapshotVersion.{SnapshotVersion}
use Rattle.relay_book.specs.declared.version.SnapshotVersion.TheVariants.{WithoutDelay, WithDelay}
use Rattle.relay_book.specs.declared.change.Change.{Change}
use Rattle.relay_book.specs.Record.{IsChange, IsNoRecord, encode}
use Rattle.relay_book.specs.Queue.{Queue, FitsQueue, empty_queue, step}
use Rattle.relay_book.specs.Snapshot.{IsNoSnapshot, IsQueue, IsSnapshotOf, snapshot_kind}
use Rattle.relay_book.specs.SnapshotFields.{is_of_snapshot}
use Rattle.relay_book.specs.StandsFor.{ReadsBody, ReadsFirst, ReadsNoBody, ReadsNoFirst}
use Rattle.relay_book.proofs.ChangeFieldLemmas.{encoding_is_one}
use Rattle.relay_book.proofs.CodeLemmas.{first_of}
use Rattle.relay_book.proofs.SnapshotLemmas.{kind_of}
use Rattle.relay_book.proofs.QueueLemmas.{step_is_queue}
use Rattle.relay_book.proofs.StandLemmas.{fits_is_change, other_kinds, first_is_queue}
use Rattle.relay_book.proofs.PieceLemmas.{kind_in_all}

kind_is_of_snapshot : (octets : List ℕ) (version : SnapshotVersion) → first_of octets ≡ snapshot_kind version → is_of_snapshot octets ≡ true
kind_is_of_snapshot [] WithoutDelay e = absurd (omega (arith, e))
kind_is_of_snapshot [] WithDelay e = absurd (omega (arith, e))
kind_is_of_snapshot (octet ∷ octets) WithoutDelay e = ap (λ n. n == 3 || n == 5) e
kind_is_of_snapshot (octet ∷ octets) WithDelay e = ap (λ n. n == 3 || n == 5) e

snapshot_is_of_snapshot : (octets : List ℕ) (queue : Queue) → IsSnapshotOf octets queue → is_of_snapshot octets ≡ true
snapshot_is_of_snapshot octets queue is = kind_is_of_snapshot octets is.0 (kind_of is.0 octets queue is.1)

of_version : (octets : List ℕ) → is_of_snapshot octets ≡ true → (version : SnapshotVersion) × (snapshot_kind version ≡ first_of octets)
of_version [] of = absurd (false≢true of)
of_version (octet ∷ octets) of = by (cases_Bool (octet == 3))
  where
    by : ((octet == 3) ≡ true) ⊎ ((octet == 3) ≡ false) → (version : SnapshotVersion) × (snapshot_kind version ≡ octet)
    by (inl first) = (WithoutDelay, sym (eqb-true octet 3 first))
    by (inr other) = (WithDelay, sym (eqb-true octet 5 (sym (ap (λ (b : Bool). b || octet == 5) other) ∙ of)))

of_no_record : (octets : List ℕ) (change : Change) → octets ≡ encode change → is_of_snapshot octets ≡ true → ⊥
of_no_record octets change is of = let version = of_version octets of in other_kinds version.0 change (version.1 ∙ ap first_of is)

pub snapshot_first : (body : List ℕ) (left : Queue) → IsSnapshotOf body left → ReadsFirst body left
snapshot_first body left is = inl is

pub change_first : (body : List ℕ) (queue left : Queue) → queue ≡ empty_queue → ReadsBody queue body left → ReadsFirst body left
change_first body queue left is reads = inr (subst (λ (q : Queue). ReadsBody q body left) is reads)

pub no_snapshot_first : (body : List ℕ) → is_of_snapshot body ≡ true → IsNoSnapshot body → ReadsNoFirst body
no_snapshot_first body of out = record { none = by }
  where
    by : (left : Queue) → ReadsFirst body left → ⊥
    by left (inl snapshot) = out.none left snapshot
    by left (inr reads) = of_no_record body reads.change reads.body_is of

pub no_change_first : (body : List ℕ) (queue : Queue) → queue ≡ empty_queue → is_of_snapshot body ≡ false → ReadsNoBody queue body → ReadsNoFirst body
no_change_first body queue is other out = record { none = by }
  where
    by : (left : Queue) → ReadsFirst body left → ⊥
    by left (inl snapshot) = false≢true (sym other ∙ snapshot_is_of_snapshot body left snapshot)
    by left (inr reads) = out.none left (subst (λ (q : Queue). ReadsBody q body left) (sym is) reads)

-- where a body records no change that fits
pub no_record : (queue : Queue) (body : List ℕ) → IsNoRecord body → ReadsNoBody queue body
no_record queue body out = record {
  none = λ left reads. out.none reads.change (fits_is_change queue reads.change reads.fits) reads.body_is;
}

pub no_fit : (queue : Queue) (body : List ℕ) (change : Change) → IsChange change → body ≡ encode change → (FitsQueue queue change → ⊥) → ReadsNoBody queue body
no_fit queue body change valid is misfit = record {
  none = λ left reads.
      misfit (subst (FitsQueue queue) (encoding_is_one reads.change change (fits_is_change queue reads.change reads.fits) valid (sym reads.body_is ∙ is)) reads.fits);
}

-- the change that a body records was applied
next_is_queue : (queue : Queue) (change : Change) (left : Queue) → FitsQueue queue change → left ≡ step queue change → IsQueue queue → IsQueue left
next_is_queue queue change left fits is valid = subst IsQueue (sym is) (step_is_queue queue change fits valid)

pub queue_on_ok : {T E : Type 0} (result : Result T E) (queue : Queue) (change : Change) (left : Queue) → OnOk result (FitsQueue queue change)
    → OnOk result (left ≡ step queue change) → OnOk result (IsQueue queue → IsQueue left)
queue_on_ok (Ok value) queue change left fits is = next_is_queue queue change left fits is
queue_on_ok (Err fault) queue change left fits is = tt

-- the first record of a list, a snapshot or a change
pub ruleset first_records = (snapshot_first, no_snapshot_first, change_first, no_change_first, kind_in_all, first_is_queue)
