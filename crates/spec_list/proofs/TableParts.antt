-- A table in memory is its first n records and the others, and back. Assumes nothing.
use Prim.Native.Nat.{ℕ, zero, suc, ◌+◌}
use mathlib.Core.List.{List, [], ◌∷◌}
use lib.ListN.{take, drop}
use seplogic.Ra.Ura.{Ura}
use base.Logic.{ent, sep}
use base.Fml.{Share, ftrue}
use types.Logic.{Logic, sem}
use types.Kit.{‵, ◌⊛◌, ◌$◌, ◌∵◌, !, qed, move, use1, use2, split, fsplit, fjoin, drop as forgo, done}
use denote.RattleType.{RattleType}
use denote.Memory.{mem}
use denote.Index.{row}
use denote.Steps.{nothing}

-- how many bytes a record has
abbrev pub spec_record_bytes : ℕ
spec_record_bytes = 14

module _ (R : RattleType) where
  -- where record n lies, the first at o
  abbrev pub past : ℕ → ℕ → ℕ
  past zero o = o
  past (suc n) o = past n (o + (mem R).size)

module _ {M : Type 1} {𝓤 : Ura M} (𝓛 : Logic 𝓤) (R : RattleType) (q : Share) where
  pub cut : (n : ℕ) (xs : List R.Denot) (b o : ℕ) → ent 𝓤 (sem 𝓛 (row R q xs b o)) (sep 𝓤 (sem 𝓛 (row R q (take n xs) b o)) (sem 𝓛 (row R q (drop n xs) b (past R n o))))
  cut zero xs b o = qed 𝓛 (‵ (row R q xs b o) ∷ []) ∵ nothing ! $ done !
  cut (suc n) [] b o = qed 𝓛 (‵ ftrue ∷ []) ∵ nothing ! $ done !
  cut (suc n) (x ∷ xs) b o =
      qed 𝓛 (‵ (row R q (x ∷ xs) b o) ∷ []) ∵ fsplit ! $ move ! (1 ∷ []) $
      use1 𝓛 (‵ (row R q (take n xs) b (o + (mem R).size)) ⊛ ‵ (row R q (drop n xs) b (past R n (o + (mem R).size)))) (cut n xs b (o + (mem R).size)) $ split ! $
      move ! (2 ∷ 0 ∷ []) $ fjoin ! $ done !

  pub mend : (n : ℕ) (xs : List R.Denot) (b o : ℕ) → ent 𝓤 (sep 𝓤 (sem 𝓛 (row R q (take n xs) b o)) (sem 𝓛 (row R q (drop n xs) b (past R n o)))) (sem 𝓛 (row R q xs b o))
  mend zero xs b o = qed 𝓛 (‵ ftrue ∷ ‵ (row R q xs b o) ∷ []) ∵ forgo ! $ done !
  mend (suc n) [] b o = qed 𝓛 (‵ ftrue ∷ ‵ ftrue ∷ []) ∵ forgo ! $ done !
  mend (suc n) (x ∷ xs) b o =
      qed 𝓛 (‵ (row R q (x ∷ take n xs) b o) ∷ ‵ (row R q (drop n xs) b (past R n (o + (mem R).size))) ∷ []) ∵ fsplit ! $ move ! (1 ∷ 2 ∷ []) $
      use2 𝓛 (‵ (row R q xs b (o + (mem R).size))) (mend n xs b (o + (mem R).size)) $ move ! (1 ∷ 0 ∷ []) $ done !
