-- The bytes of the reads and the writes so far, and of one more.
use Rattle.std.proofs.Common.{◌≡◌, ◌⊎◌, inl, inr, ℕ, ◌<◌, ◌≤◌, List, [], ◌∷◌, ◌++◌, length, take, Some, None, refl, sym, ap, ◌∙◌, arith, append_assoc, append-nil}
use Rattle.io_traits.specs.Source.{Takes, TakesNothing}
use Rattle.io_traits.specs.Sink.{Writes}
use Rattle.io_traits.specs.Streams.{Reading, Writing, gave, unread, took, unwritten, bytes_given, bytes_taken}

given-append : (reads more : List Reading) → bytes_given (reads ++ more) ≡ bytes_given reads ++ bytes_given more
given-append [] more = refl
given-append (gave room bytes ∷ reads) more = ap (λ (l : List ℕ). bytes ++ l) (given-append reads more) ∙ sym (append_assoc bytes (bytes_given reads) (bytes_given more))
given-append (unread room ∷ reads) more = given-append reads more

taken-append : (writes more : List Writing) → bytes_taken (writes ++ more) ≡ bytes_taken writes ++ bytes_taken more
taken-append [] more = refl
taken-append (took given taken ∷ writes) more = ap (λ (l : List ℕ). taken ++ l) (taken-append writes more) ∙ sym (append_assoc taken (bytes_taken writes) (bytes_taken more))
taken-append (unwritten given ∷ writes) more = taken-append writes more

-- one read more gave these bytes
given_more : (reads new : List Reading) (room : ℕ) (bytes : List ℕ) → new ≡ reads ++ gave room bytes ∷ [] → bytes_given new ≡ bytes_given reads ++ bytes
given_more reads new room bytes is = ap bytes_given is ∙ given-append reads (gave room bytes ∷ []) ∙ ap (λ (l : List ℕ). bytes_given reads ++ l) (append-nil bytes)

pub given_same : (reads new : List Reading) (room : ℕ) → new ≡ reads ++ unread room ∷ [] → TakesNothing (bytes_given reads) (bytes_given new) None None
given_same reads new room is = record {
  same_taken = ap bytes_given is ∙ given-append reads (unread room ∷ []) ∙ append-nil (bytes_given reads);
  same_left = refl;
}

pub takes : (reads new : List Reading) (room n : ℕ) (buffer : List ℕ) → n ≤ length buffer → new ≡ reads ++ gave room (take n buffer) ∷ []
    → Takes (bytes_given reads) (bytes_given new) None None buffer n
takes reads new room n buffer within is = record {
  fits = within;
  grows = given_more reads new room (take n buffer) is;
  shortens = tt;
  end = λ none. tt;
}

-- one write more took these bytes
taken_more : (writes new : List Writing) (given bytes : List ℕ) → new ≡ writes ++ took given bytes ∷ [] → bytes_taken new ≡ bytes_taken writes ++ bytes
taken_more writes new given bytes is = ap bytes_taken is ∙ taken-append writes (took given bytes ∷ []) ∙ ap (λ (l : List ℕ). bytes_taken writes ++ l) (append-nil bytes)

pub taken_same : (writes new : List Writing) (given : List ℕ) → (new ≡ writes ++ unwritten given ∷ []) ⊎ ((new ≡ writes ++ took given [] ∷ []) × (1 ≤ length given))
    → Some (bytes_taken new) ≡ Some (bytes_taken writes)
taken_same writes new given (inl is) = ap Some (ap bytes_taken is ∙ taken-append writes (unwritten given ∷ []) ∙ append-nil (bytes_taken writes))
taken_same writes new given (inr is) = ap Some (taken_more writes new given [] is.0 ∙ append-nil (bytes_taken writes))

pub writes_more : (writes new : List Writing) (faults n : ℕ) (given : List ℕ) → n ≤ length given → (n ≡ 0 → length given ≡ 0) → new ≡ writes ++ took given (take n given) ∷ []
    → Writes (Some (bytes_taken writes)) (Some (bytes_taken new)) faults faults given n
writes_more writes new faults n given within some is = record {
  fits = within;
  extends = ap Some (taken_more writes new given (take n given) is);
  stuck = λ none more. absurd (some_of (length given) (some none) more);
}
  where
    some_of : (k : ℕ) → k ≡ 0 → 0 < k → ⊥
    some_of k is more = omega (arith, is, more)
