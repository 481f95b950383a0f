-- What the numbers of a call on one buffer tell. Assumes nothing.
use mathlib.Core.Path.{◌≡◌, refl, sym, ap, ◌∙◌}
use mathlib.Core.Bool.{Bool, true, false, cond}
use mathlib.Core.List.{List, [], ◌∷◌, ◌++◌}
use mathlib.Core.Option.{Option, some}
use Prim.Native.Nat.{ℕ, ◌≤◌, ◌<◌}
use native.Mathlib.Omega.{arith}
use borrow.Author.Tests.{le-leb, lt-leb, leb-true, leb-false}
use lib.Dec.{leb}
use lib.ListN.{length, take, drop, length-append}
use lib.Seq.{take_at}
use Rattle.meaning.specs.Bytes.{Text}
use Rattle.meaning.specs.Spec.{Answer, accepted, refused}
use Rattle.meaning.specs.Buffers.{Outputs, Outcome, short, writes, outcome, buffers_after, refusal_of, lengths_of, one_length, MeetsOne}

module _ (a : Answer Outputs) (entry exit : Text) (n q size : ℕ) (m : MeetsOne a entry exit n q size) where
  number_is : (o : Outcome) → outcome a (entry ∷ []) ≡ o → n ≡ refusal_of o
  number_is o e = m.refusal_is ∙ m.meets.tells.refusal_is ∙ ap refusal_of e

  -- a refusal tells its number
  pub refused-told : (k : ℕ) (r : Option ℕ) → a ≡ refused k r → n ≡ k
  refused-told k r e = number_is (outcome (refused k r) (entry ∷ [])) (ap (λ (x : Answer Outputs). outcome x (entry ∷ [])) e)

  module _ (t : Text) (e : a ≡ accepted (some t ∷ [])) where
    asked : outcome a (entry ∷ []) ≡ cond (leb (length t) (length entry)) (writes (some t ∷ [])) (short 1 (length t))
    asked = ap (λ (x : Answer Outputs). outcome x (entry ∷ [])) e

    fits : length t ≤ length entry → outcome a (entry ∷ []) ≡ writes (some t ∷ [])
    fits h = asked ∙ rw (le-leb (length t) (length entry) h)

    fails : length entry < length t → outcome a (entry ∷ []) ≡ short 1 (length t)
    fails h = asked ∙ rw (lt-leb (length t) (length entry) h)

    -- 0 where it was written
    pub told-fits : n ≡ 0 → length t ≤ length entry
    told-fits z = go (leb (length t) (length entry)) refl
      where
        go : (b : Bool) → leb (length t) (length entry) ≡ b → length t ≤ length entry
        go true f = leb-true (length t) (length entry) f
        go false f = absurd (let h : n ≡ 17 = number_is (short 1 (length t)) (fails (leb-false (length t) (length entry) f)) in omega arith)

    -- 17 where the buffer was too short
    pub told-short : (n ≡ 0 → ⊥) → length entry < length t
    told-short z = go (leb (length t) (length entry)) refl
      where
        go : (b : Bool) → leb (length t) (length entry) ≡ b → length entry < length t
        go true f = absurd (z (number_is (writes (some t ∷ [])) (fits (leb-true (length t) (length entry) f))))
        go false f = leb-false (length t) (length entry) f

    pub told-seventeen : (n ≡ 0 → ⊥) → n ≡ 17
    told-seventeen z = number_is (short 1 (length t)) (fails (told-short z))

    -- how long it is
    pub told-length : n ≡ 0 → size ≡ length t
    told-length z = m.size_is ∙ ap (λ (l : List (Option ℕ)). one_length l m.told.beside) (m.meets.tells.lengths-are ∙ ap lengths_of (fits (told-fits z)))

    -- and where it stands
    stands : n ≡ 0 → exit ≡ t ++ drop (length t) entry
    stands z =
        let e : exit ∷ [] ≡ (t ++ drop (length t) entry) ∷ [] = m.meets.buffers-are ∙ ap (λ (o : Outcome). buffers_after o (entry ∷ [])) (fits (told-fits z)) in
        cc

    pub told-within : n ≡ 0 → size ≤ length exit
    told-within z = omega (arith, told-length z, ap length (stands z), length-append t (drop (length t) entry))

    pub told_text : n ≡ 0 → take size exit ≡ t
    told_text z = rw (stands z) (take_at t (drop (length t) entry) size (sym (told-length z)))
