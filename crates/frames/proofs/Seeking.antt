-- A name against the candidates of a partial name: piece by piece, and that its size tells which it may be. Assumes nothing.
use mathlib.Core.Path.{◌≡◌, refl, sym, ap, ◌∙◌}
use mathlib.Core.Bool.{Bool, true, false, cond}
use mathlib.Core.List.{List, [], ◌∷◌, ◌++◌}
use Prim.Native.Nat.{ℕ, zero, suc, ◌+◌, ◌-◌, ◌<◌}
use native.Mathlib.Omega.{arith}
use lib.Dec.{eqb}
use lib.ListN.{length, take, drop, get_or}
use lib.Seq.{drop-drop}
use Rattle.meaning.specs.Bytes.{Text, ◌and◌, any, same, begins}
use Rattle.meaning.specs.Prefix.{candidates}
use Rattle.text.proofs.Rests.{rest_part}
use Rattle.text.proofs.Rows.{and-false}
use Rattle.compare.proofs.Sames.{eqb_swap, same-other-length, or-false}
use Rattle.frames.specs.Frames.{candidate, adds}
use Rattle.frames.proofs.Candidates.{six, candidate-length}

both-again : (a b c : Bool) → (a and (b and c)) ≡ ((a and b) and c)
both-again true b c = refl
both-again false b c = refl

-- a name is one text and then another: it begins with the one, and the rest is the other
same-append : (name a rest : Text) → same name (a ++ rest) ≡ (begins a name and same (drop (length a) name) rest)
same-append name [] rest = refl
same-append [] (x ∷ a) rest = refl
same-append (y ∷ name) (x ∷ a) rest =
    rw (eqb_swap y x, same-append name a rest) (both-again (eqb x y) (begins a name) (same (drop (length a) name) rest))

-- ---- the pieces
module _ (t name : Text) (k : ℕ) (leading trailing : Text) (f : candidate k t ≡ leading ++ (t ++ trailing)) where
  parted : same name (candidate k t) ≡ (begins leading name and (begins t (drop (length leading) name) and same (drop (length leading + length t) name) trailing))
  parted =
      ap (same name) f
      ∙ same-append name leading (t ++ trailing)
      ∙ rw (same-append (drop (length leading) name) t trailing, drop-drop)

  module _ (q : Bool) (eq : q ≡ begins t (take (length name - length leading) (drop (length leading) name))) where
    named : q ≡ begins t (drop (length leading) name)
    named = rw rest_part at eq

    -- the rest does not begin with the partial name
    pub names-not : q ≡ false → false ≡ same name (candidate k t)
    names-not z = sym (parted ∙ rw (← named, z) (and-false (begins leading name)))

    module _ (yes : q ≡ true) (r : Bool) (er : r ≡ begins leading name) where
      -- the name does not begin with what leads
      pub leads-not : r ≡ false → r ≡ same name (candidate k t)
      leads-not z = z ∙ sym (parted ∙ rw (← er, z))

      -- it does, and what is left is what trails
      pub trails-told : r ≡ true → (p : Bool) → p ≡ same (take (length name - (length leading + length t)) (drop (length leading + length t) name)) trailing → p ≡ same name (candidate k t)
      trails-told z p e = rw rest_part at e ∙ sym (parted ∙ rw (← er, z, ← named, yes))

-- ---- how many bytes a frame adds

-- a name of another size is no candidate
pub other-size : (t name : Text) (k : ℕ) → k < 6 → (length name ≡ length t + adds k → ⊥) → same name (candidate k t) ≡ false
other-size t name k h no_size = same-other-length name (candidate k t) (λ e. no_size (omega (arith, e, candidate-length t k h)))

-- the number of the frame that adds so many
abbrev number_by : ℕ → ℕ
number_by d = cond (eqb d 0) 0 (cond (eqb d 5) 1 (cond (eqb d 10) 2 (cond (eqb d 11) 3 (cond (eqb d 13) 4 5))))

number_of : (k : ℕ) → k < 6 → number_by (adds k) ≡ k
number_of = six (λ (k : ℕ). number_by (adds k) ≡ k) refl refl refl refl refl refl

-- no two add as many
adds-once : (j k : ℕ) → j < 6 → k < 6 → adds j ≡ adds k → j ≡ k
adds-once j k h i e = sym (number_of j h) ∙ ap number_by e ∙ number_of k i

-- ---- one candidate at most has the size of a name
module _ (test : Text → Bool) where
  -- none passes a test
  any_none : (l : List Text) → ((j : ℕ) → j < length l → test (get_or l j []) ≡ false) → any test l ≡ false
  any_none [] h = refl
  any_none (x ∷ l) h = rw (h 0 (omega arith)) (any_none l (λ j i. h (suc j) (omega arith)))

  -- none but one does
  any-one : (l : List Text) (k : ℕ) → k < length l → ((j : ℕ) → j < length l → (j ≡ k → ⊥) → test (get_or l j []) ≡ false) → any test l ≡ test (get_or l k [])
  any-one [] k i h = absurd (omega arith)
  any-one (x ∷ l) zero i h = rw (any_none l (λ j q. h (suc j) (omega arith) (λ e. omega arith))) (or-false (test x))
  any-one (x ∷ l) (suc k) i h = rw (h 0 (omega arith) (λ e. omega arith)) (any-one l k (omega arith) (λ j q d. h (suc j) (omega arith) (λ e. d (omega arith))))

module _ (t name : Text) where
  -- no name is shorter than the partial name
  pub too_short : length name < length t → false ≡ any (same name) (candidates t)
  unfolding candidate
  too_short h = sym (any_none (same name) (candidates t) (λ j i. other-size t name j i (λ e. omega arith)))

  module _ (d : ℕ) (e : d + length t ≡ length name) where
    -- none has its size
    pub no-frame : ((k : ℕ) → k < 6 → d ≡ adds k → ⊥) → false ≡ any (same name) (candidates t)
    unfolding candidate
    no-frame none = sym (any_none (same name) (candidates t) (λ j i. other-size t name j i (λ q. none j i (omega arith))))

    -- one has
    pub one_told : (k : ℕ) → k < 6 → d ≡ adds k → (r : Bool) → r ≡ same name (candidate k t) → r ≡ any (same name) (candidates t)
    unfolding candidate
    one_told k h a r g = g ∙ sym (any-one (same name) (candidates t) k h (λ j i n. other-size t name j i (λ q. n (adds-once j k i h (omega arith)))))
