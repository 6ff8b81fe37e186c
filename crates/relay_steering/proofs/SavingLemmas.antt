-- Some of the messages, and one more.
use Rattle.std.proofs.Common.{List, [], ◌∷◌, ◌++◌, inl, inr, refl}
use Rattle.relay_queue.specs.declared.groups.Selected.{Selected}
use Rattle.relay_steering.specs.Withdrawing.{AreSome}

pub some_without : (some all : List Selected) (last : Selected) → AreSome some all → AreSome some (all ++ last ∷ [])
some_without [] all last are = tt
some_without (one ∷ some) [] last are = absurd are
some_without (one ∷ some) (first ∷ all) last (inl are) = inl (are.0, some_without some all last are.1)
some_without (one ∷ some) (first ∷ all) last (inr are) = inr (some_without (one ∷ some) all last are)

pub some_with : (some all : List Selected) (last : Selected) → AreSome some all → AreSome (some ++ last ∷ []) (all ++ last ∷ [])
some_with [] [] last are = inl (refl, tt)
some_with [] (first ∷ all) last are = inr (some_with [] all last tt)
some_with (one ∷ some) [] last are = absurd are
some_with (one ∷ some) (first ∷ all) last (inl are) = inl (are.0, some_with some all last are.1)
some_with (one ∷ some) (first ∷ all) last (inr are) = inr (some_with (one ∷ some) all last are)

pub some_are_all : (all : List Selected) → AreSome all all
some_are_all [] = tt
some_are_all (first ∷ all) = inl (refl, some_are_all all)
