-- What is known of the first octets of a balancer's connection, as more of its header comes.
use Rattle.std.proofs.Common.{◌≡◌, ℕ, ◌+◌, ◌≤◌, List, [], ◌∷◌, ◌++◌, Option, None, Some, take, drop, length, refl, sym, ap, ◌∙◌, subst, take-append-drop, append_assoc, append-nil}
use Rattle.std.proofs.Math.Seq.{take-append-add}
use Rattle.std.proofs.lemmas.List.{length-take-le, take-append-le}
use Rattle.std.specs.Io.KnownBytes.{Consumes, Keeps}
use Rattle.relay_octets.specs.Beginning.{Begins}
use Rattle.relay_proxy.specs.Header.{IsBegun, IsFound, IsHeader, IsNone, IsUnfinished, Reads}
use Rattle.relay_proxy.specs.declared.header.Header.{Header}
use Rattle.relay_proxy.specs.declared.header.Reading.{Reading}
use Rattle.relay_proxy.specs.declared.header.Reading.TheVariants.{Found, Unfinished, Missing}
use Rattle.relay_proxy.proofs.Theorems.{header_is_all, header_is_finished}
use Rattle.relay_connections.specs.HeaderFront.{Comes, HasNothingAfter, IsNoHeader, ReadsWhole}
use Rattle.relay_connections.proofs.KnownLemmas.{consumes_none, keeps_same}
use borrow.Rule.Slice.PartMut.{post_of, put_mid}

-- what begins no octets is none
begins_none : (front : List ℕ) → Begins front [] → front ≡ []
begins_none [] begins = refl
begins_none (octet ∷ front) begins = absurd (cc (begins.1))

-- no octets are no more than a header
pub nothing_after_none : HasNothingAfter []
nothing_after_none = λ header source is begins. begins_none header begins

-- so are these, where no more have come than are missing at least
pub nothing_after_more : (octets more : List ℕ) (count : ℕ) → IsBegun octets count → length more ≤ count → HasNothingAfter (octets ++ more)
nothing_after_more octets more count begun short = λ header source is begins. header_is_all octets more header count source begun short is begins

-- octets begin with themselves
begins_itself : (octets : List ℕ) → Begins octets octets
begins_itself octets = ([], sym (append-nil octets))

whole_is_found : (octets : List ℕ) (header : Header) → HasNothingAfter octets → IsFound octets header → IsHeader octets header.source
whole_is_found octets header nothing found =
    let begins : Begins (take header.length octets) octets = (drop header.length octets, sym (take-append-drop header.length octets)) in
    subst (λ (whole : List ℕ). IsHeader whole header.source) (nothing (take header.length octets) header.source found.is begins) found.is

-- a header that stands is all of them
pub reads_whole : (octets : List ℕ) (reading : Reading) → HasNothingAfter octets → Reads octets reading → ReadsWhole octets reading
reads_whole octets (Found header) nothing reads = whole_is_found octets header nothing reads
reads_whole octets (Unfinished count) nothing reads = reads
reads_whole octets Missing nothing reads = reads

-- octets of which more are waited for are no header
pub unfinished_is_no_header : (octets : List ℕ) → IsUnfinished octets → IsNoHeader octets
unfinished_is_no_header octets unfinished = record {
  none = λ source is. header_is_finished octets [] source is (subst IsUnfinished (sym (append-nil octets)) unfinished);
}

-- nor are those that begin with none
pub none_is_no_header : (octets : List ℕ) → IsNone octets → IsNoHeader octets
none_is_no_header octets is_none = record { none = λ source is. is_none.none octets source is (begins_itself octets) }

-- what comes first is consumed, and then what comes next
consumes_both : (all left later : Option (List ℕ)) (one two : List ℕ) → Consumes all left one → Consumes left later two → Consumes all later (one ++ two)
consumes_both None left later one two first second = tt
consumes_both (Some all) None later one two first second = absurd first
consumes_both (Some all) (Some left) None one two first second = absurd second
consumes_both (Some all) (Some left) (Some later) one two first second =
    first ∙ ap (λ (rest : List ℕ). one ++ rest) second ∙ sym (append_assoc one two later)

-- nothing has come
pub comes_none : (left later : Option (List ℕ)) (old new : List ℕ) → Keeps left later → new ≡ old → Comes left later old new
comes_none left later old new keeps octets = record {
  came = [];
  octets = octets ∙ sym (append-nil old);
  stream = consumes_none left later keeps;
}

pub comes_still : (left later : Option (List ℕ)) (old new : List ℕ) → later ≡ left → new ≡ old → Comes left later old new
comes_still left later old new same octets = comes_none left later old new (keeps_same left later (sym same)) octets

-- what is read into a part of an array follows what stands before that part
pub read_after : (array into : List ℕ) (start width came : ℕ) → start ≤ length array → came ≤ length into → take (start + came) (put_mid start width array into) ≡ take start array ++ take came into
read_after array into start width came within few =
    let front : length (take start array) ≡ start = length-take-le start array within in
    ap (λ (size : ℕ). take (size + came) (put_mid start width array into)) (sym front)
    ∙ take-append-add (take start array) (into ++ post_of start width array) came
    ∙ ap (λ (rest : List ℕ). take start array ++ rest) (take-append-le came into (post_of start width array) few)

-- octets have come, and then more
pub comes_on : (one two three : Option (List ℕ)) (old mid new : List ℕ) → Comes one two old mid → Comes two three mid new → Comes one three old new
comes_on one two three old mid new first second = record {
  came = first.came ++ second.came;
  octets = second.octets ∙ ap (λ (front : List ℕ). front ++ second.came) first.octets ∙ append_assoc old first.came second.came;
  stream = consumes_both one two three first.came second.came first.stream second.stream;
}
