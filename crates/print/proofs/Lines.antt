-- Whole lines: a row's and a refusal's, piece by piece. Assumes nothing.
use mathlib.Core.Path.{◌≡◌}
use mathlib.Core.List.{[], ◌∷◌, ◌++◌, append_assoc}
use Prim.Native.Nat.{ℕ, ◌+◌, ◌≤◌}
use native.Mathlib.Omega.{arith}
use lib.ListN.{length, length-append}
use Rattle.meaning.specs.Bytes.{Text, bytes}
use Rattle.meaning.specs.Deliveries.{decimal, shown, shown_option, shown_item, shown_kind, row_line}
use Rattle.buffer.specs.Splice.{splice}
use Rattle.buffer.proofs.Pairs.{pair-second, pair_put, pair_end}
use Rattle.buffer.proofs.Threes.{three-first, three-second, three_third, three-put, three-end}
use Rattle.print.specs.Lines.{ended, with_tab, with_feed, line_start, refusal_most, lent, row_meant}
use Rattle.print.specs.declared.line.Row.{Row}
use Rattle.print.proofs.Decimals.{decimal-few}
use Rattle.print.proofs.Fields.{ended-length}

module _ (r : Row) where
  -- the pieces of a row's line
  line-pieces : row_line (row_meant r) ≡ line_start r.item r.spec r.kind ++ (with_tab (shown r.source.now) ++ with_feed (shown_option (lent r.destination)))
  unfolding row_line line_start ended
  line-pieces = simp append_assoc

  start-length : length (line_start r.item r.spec r.kind) ≡ length (shown_item r.item) + length (decimal r.spec) + length (shown_kind r.kind) + 3
  unfolding line_start
  start-length =
      omega (arith, length-append (with_tab (shown_item r.item)) (with_tab (decimal r.spec) ++ with_tab (shown_kind r.kind)), length-append (with_tab (decimal r.spec)) (with_tab (shown_kind r.kind)), ended-length 9 (shown_item r.item), ended-length 9 (decimal r.spec), ended-length 9 (shown_kind r.kind))

  -- its length
  pub line-length : (a b c e f : ℕ) → a ≡ length (shown_item r.item) → b ≡ length (decimal r.spec) → c ≡ length (shown_kind r.kind) → e ≡ length (shown r.source.now) → f ≡ length (shown_option (lent r.destination)) → a + b + c + (e + f) + 5 ≡ length (row_line (row_meant r))
  line-length a b c e f ea eb ec ee ef =
      rw line-pieces
      (omega (arith, start-length, length-append (line_start r.item r.spec r.kind) (with_tab (shown r.source.now) ++ with_feed (shown_option (lent r.destination))), length-append (with_tab (shown r.source.now)) (with_feed (shown_option (lent r.destination))), ended-length 9 (shown r.source.now), ended-length 10 (shown_option (lent r.destination))))

  -- one piece after the other
  module _ (d : Text) (at : ℕ) (fits : at + length (row_line (row_meant r)) ≤ length d) where
    all : at + length (line_start r.item r.spec r.kind ++ (with_tab (shown r.source.now) ++ with_feed (shown_option (lent r.destination)))) ≤ length d
    all = rw line-pieces at fits

    pub start-room : at + length (line_start r.item r.spec r.kind) ≤ length d
    start-room = three-first d at (line_start r.item r.spec r.kind) (with_tab (shown r.source.now)) (with_feed (shown_option (lent r.destination))) all

    module _ (o : Text) (i : ℕ) (eo : o ≡ splice d at (line_start r.item r.spec r.kind)) (ei : i ≡ at + length (line_start r.item r.spec r.kind)) where
      pub source-room : i + length (ended 9 (shown r.source.now)) ≤ length o
      source-room = three-second d at (line_start r.item r.spec r.kind) (with_tab (shown r.source.now)) (with_feed (shown_option (lent r.destination))) all o i eo ei

      module _ (p : Text) (j : ℕ) (ep : p ≡ splice o i (ended 9 (shown r.source.now))) (ej : j ≡ i + length (ended 9 (shown r.source.now))) where
        pub destination-room : j + length (with_feed (shown_option (lent r.destination))) ≤ length p
        destination-room = three_third d at (line_start r.item r.spec r.kind) (with_tab (shown r.source.now)) (with_feed (shown_option (lent r.destination))) all o i eo ei p j ep ej

        pub line-put : (q : Text) → q ≡ splice p j (with_feed (shown_option (lent r.destination))) → q ≡ splice d at (row_line (row_meant r))
        line-put q e = rw line-pieces (three-put d at (line_start r.item r.spec r.kind) (with_tab (shown r.source.now)) (with_feed (shown_option (lent r.destination))) all o i eo ei p j ep ej q e)

        pub line-ends : (n : ℕ) → n ≡ j + length (with_feed (shown_option (lent r.destination))) → n ≡ at + length (row_line (row_meant r))
        line-ends n e = rw line-pieces (three-end d at (line_start r.item r.spec r.kind) (with_tab (shown r.source.now)) (with_feed (shown_option (lent r.destination))) all o i eo ei p j ep ej n e)

-- the line of a refusal: the word, and then the number
module _ (d : Text) (n : ℕ) (h : refusal_most ≤ length d) where
  both : 0 + length (bytes "refused " ++ ended 10 (decimal n)) ≤ length d
  both = omega (arith, decimal-few n, length-append (bytes "refused ") (ended 10 (decimal n)), ended-length 10 (decimal n))

  module _ (o : Text) (i : ℕ) (eo : o ≡ splice d 0 (bytes "refused ")) (ei : i ≡ 0 + 8) where
    pub number-room : i + length (ended 10 (decimal n)) ≤ length o
    number-room = pair-second d 0 (bytes "refused ") (ended 10 (decimal n)) both o i eo ei

    pub refusal-put : (q : Text) → q ≡ splice o i (ended 10 (decimal n)) → q ≡ splice d 0 (bytes "refused " ++ (decimal n ++ (10 ∷ [])))
    unfolding ended
    refusal-put q e = pair_put d 0 (bytes "refused ") (ended 10 (decimal n)) both o i eo ei q e

    pub refusal-ends : (r : ℕ) → r ≡ i + length (ended 10 (decimal n)) → r ≡ length (bytes "refused " ++ (decimal n ++ (10 ∷ [])))
    unfolding ended
    refusal-ends r e = omega (arith, pair_end d 0 (bytes "refused ") (ended 10 (decimal n)) both o i eo ei r e)
