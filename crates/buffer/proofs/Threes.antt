-- Three texts written one right after the other. Assumes nothing.
use mathlib.Core.Path.{◌≡◌}
use mathlib.Core.List.{◌++◌}
use Prim.Native.Nat.{ℕ, ◌+◌, ◌≤◌}
use lib.ListN.{length}
use Rattle.meaning.specs.Bytes.{Text}
use Rattle.buffer.specs.Splice.{splice}
use Rattle.buffer.proofs.Pairs.{pair-first, pair-second, pair_put, pair_end}

module _ (d : Text) (at : ℕ) (a b c : Text) (fits : at + length (a ++ (b ++ c)) ≤ length d) where
  -- there is room for the first
  pub three-first : at + length a ≤ length d
  three-first = pair-first d at a (b ++ c) fits

  module _ (o : Text) (i : ℕ) (eo : o ≡ splice d at a) (ei : i ≡ at + length a) where
    rest : i + length (b ++ c) ≤ length o
    rest = pair-second d at a (b ++ c) fits o i eo ei

    -- then for the second
    pub three-second : i + length b ≤ length o
    three-second = pair-first o i b c rest

    module _ (p : Text) (j : ℕ) (ep : p ≡ splice o i b) (ej : j ≡ i + length b) where
      -- then for the third
      pub three_third : j + length c ≤ length p
      three_third = pair-second o i b c rest p j ep ej

      -- all are written
      pub three-put : (q : Text) → q ≡ splice p j c → q ≡ splice d at (a ++ (b ++ c))
      three-put q e = pair_put d at a (b ++ c) fits o i eo ei q (pair_put o i b c rest p j ep ej q e)

      -- and end there
      pub three-end : (k : ℕ) → k ≡ j + length c → k ≡ at + length (a ++ (b ++ c))
      three-end k e = pair_end d at a (b ++ c) fits o i eo ei k (pair_end o i b c rest p j ep ej k e)
