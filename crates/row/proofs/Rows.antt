-- A row's bytes by its pieces: three numbers, the source, the destination. Assumes nothing.
use mathlib.Core.Path.{◌≡◌, refl, sym, ap, ◌∙◌}
use mathlib.Core.List.{◌++◌, append_assoc}
use Prim.Native.Nat.{ℕ, ◌+◌, ◌≤◌}
use native.Mathlib.Omega.{arith}
use native.Mathlib.Numerals.{add-one}
use lib.ListN.{length, length-append}
use Rattle.meaning.specs.Bytes.{Text, or_empty}
use Rattle.meaning.specs.Limits.{number_groups}
use Rattle.meaning.specs.Number.{number_bytes, text_bytes}
use Rattle.meaning.specs.Rows.{destination_bytes, row_bytes}
use Rattle.buffer.specs.Splice.{splice}
use Rattle.buffer.proofs.Pairs.{pair-first, pair-second, pair_put, pair_end}
use mir.Val.{Fits}
use mir.Syntax.{w64}
use Rattle.buffer.proofs.Threes.{three-first, three-second, three_third, three-put, three-end}
use Rattle.number.proofs.Bytes.{bytes-few, size-one}
use Rattle.matcher.specs.declared.types.Ends.{Ends}
use Rattle.matcher.specs.declared.types.RowText.{RowText}
use Rattle.matcher.specs.declared.types.RowText.TheVariants.{Absent, Name, Led, Filled}
use Rattle.matcher.specs.Matching.{row_text_meant}
use Rattle.row_text.specs.Leads.{row_text_most}
use Rattle.row.specs.declared.Numbers.{Numbers}
use Rattle.row.specs.Rows.{kind_number, row_of_ends, row_numbers, present_bytes, text_most, row_most}

-- a destination that is absent
pub destination-none : (specs name : Text) (m : RowText) → m ≡ Absent → destination_bytes (row_text_meant specs name m) ≡ number_bytes 0
destination-none specs name m e = rw e

-- one that is there
pub destination-some : (specs name : Text) (m : RowText) → (m ≡ Absent → ⊥) → destination_bytes (row_text_meant specs name m) ≡ present_bytes (or_empty (row_text_meant specs name m))
destination-some specs name Absent d = absurd (d refl)
destination-some specs name Name d = refl
destination-some specs name (Led l s) d = refl
destination-some specs name (Filled f) d = refl

-- the sums of a row's sizes are a machine's numbers, and small

number-few : (m k : ℕ) → m ≡ length (number_bytes k) → m ≤ number_groups
number-few m k e = omega (arith, bytes-few k)

pub text-fits : (m n k : ℕ) → m ≡ length (number_bytes k) → n ≤ row_text_most → Fits w64 (m + n)
text-fits m n k e h = omega (arith, number-few m k e)

pub source-small : (m n k : ℕ) → m ≡ length (number_bytes k) → n ≤ row_text_most → m + n ≤ text_most
source-small m n k e h = omega (arith, number-few m k e)

pub destination-small : (m n k : ℕ) → m ≡ length (number_bytes k) → n ≤ row_text_most → m + n ≤ text_most
destination-small m n k e h = omega (arith, number-few m k e)

pub two-fit : (a b i j : ℕ) → a ≡ length (number_bytes i) → b ≡ length (number_bytes j) → Fits w64 (a + b)
two-fit a b i j e f = omega (arith, number-few a i e, number-few b j f)

module _ (a b c i j k : ℕ) (e : a ≡ length (number_bytes i)) (f : b ≡ length (number_bytes j)) (g : c ≡ length (number_bytes k)) where
  pub three-fit : Fits w64 (a + b + c)
  three-fit = omega (arith, number-few a i e, number-few b j f, number-few c k g)

  pub four-fit : (s : ℕ) → s ≤ text_most → Fits w64 (a + b + c + s)
  four-fit s h = omega (arith, number-few a i e, number-few b j f, number-few c k g)

  pub five-fit : (s d : ℕ) → s ≤ text_most → d ≤ text_most → Fits w64 (a + b + c + s + d)
  five-fit s d h l = omega (arith, number-few a i e, number-few b j f, number-few c k g)

  pub row_small : (s d : ℕ) → s ≤ text_most → d ≤ text_most → a + b + c + s + d ≤ row_most
  row_small s d h l = omega (arith, number-few a i e, number-few b j f, number-few c k g)

-- a destination that is there, written
present-pieces : (t : Text) (n : ℕ) → n ≡ length t → present_bytes t ≡ number_bytes (n + 1) ++ t
present-pieces t n e = rw (e, add-one (length t))

module _ (t : Text) (n : ℕ) (size : n ≡ length t) (d : Text) (at : ℕ) (fits : at + length (present_bytes t) ≤ length d) where
  present-both : at + length (number_bytes (n + 1) ++ t) ≤ length d
  present-both = rw (← present-pieces t n size) fits

  pub present-first : at + length (number_bytes (n + 1)) ≤ length d
  present-first = pair-first d at (number_bytes (n + 1)) t present-both

  module _ (o : Text) (i : ℕ) (eo : o ≡ splice d at (number_bytes (n + 1))) (ei : i ≡ at + length (number_bytes (n + 1))) where
    pub present-second : i + length t ≤ length o
    present-second = pair-second d at (number_bytes (n + 1)) t present-both o i eo ei

    pub present-put : (p : Text) → p ≡ splice o i t → p ≡ splice d at (present_bytes t)
    present-put p e = rw (present-pieces t n size) (pair_put d at (number_bytes (n + 1)) t present-both o i eo ei p e)

    pub present-end : (j : ℕ) → j ≡ i + length t → j ≡ at + length (present_bytes t)
    present-end j e = rw (present-pieces t n size) (pair_end d at (number_bytes (n + 1)) t present-both o i eo ei j e)

-- a destination, measured and written
module _ (specs name : Text) (m : RowText) where
  module _ (is : m ≡ Absent) where
    pub none-size : 1 ≡ length (destination_bytes (row_text_meant specs name m))
    none-size = rw (destination-none specs name m is, size-one 0 (omega arith))

    pub none-room : (d : Text) (at : ℕ) → at + length (destination_bytes (row_text_meant specs name m)) ≤ length d → at + length (number_bytes 0) ≤ length d
    none-room d at fits = rw (destination-none specs name m is) at fits

    pub none-put : (d : Text) (at : ℕ) (o : Text) → o ≡ splice d at (number_bytes 0) → o ≡ splice d at (destination_bytes (row_text_meant specs name m))
    none-put d at o e = rw (destination-none specs name m is) e

    pub none_end : (at i : ℕ) → i ≡ at + length (number_bytes 0) → i ≡ at + length (destination_bytes (row_text_meant specs name m))
    none_end at i e = rw (destination-none specs name m is) e

  module _ (d : m ≡ Absent → ⊥) (n : ℕ) (size : n ≡ length (or_empty (row_text_meant specs name m))) where
    is-present : destination_bytes (row_text_meant specs name m) ≡ present_bytes (or_empty (row_text_meant specs name m))
    is-present = destination-some specs name m d

    pub some_size : (k : ℕ) → k ≡ length (number_bytes (n + 1)) → k + n ≡ length (destination_bytes (row_text_meant specs name m))
    some_size k f = rw (is-present, present-pieces (or_empty (row_text_meant specs name m)) n size) (omega (arith, length-append (number_bytes (n + 1)) (or_empty (row_text_meant specs name m))))

    module _ (out : Text) (at : ℕ) (fits : at + length (destination_bytes (row_text_meant specs name m)) ≤ length out) where
      room : at + length (present_bytes (or_empty (row_text_meant specs name m))) ≤ length out
      room = rw is-present at fits

      pub some-first : at + length (number_bytes (n + 1)) ≤ length out
      some-first = present-first (or_empty (row_text_meant specs name m)) n size out at room

      module _ (o : Text) (i : ℕ) (eo : o ≡ splice out at (number_bytes (n + 1))) (ei : i ≡ at + length (number_bytes (n + 1))) where
        pub some-second : i + length (or_empty (row_text_meant specs name m)) ≤ length o
        some-second = present-second (or_empty (row_text_meant specs name m)) n size out at room o i eo ei

        pub some-put : (p : Text) → p ≡ splice o i (or_empty (row_text_meant specs name m)) → p ≡ splice out at (destination_bytes (row_text_meant specs name m))
        some-put p e = rw is-present (present-put (or_empty (row_text_meant specs name m)) n size out at room o i eo ei p e)

        pub some_end : (j : ℕ) → j ≡ i + length (or_empty (row_text_meant specs name m)) → j ≡ at + length (destination_bytes (row_text_meant specs name m))
        some_end j e = rw is-present (present-end (or_empty (row_text_meant specs name m)) n size out at room o i eo ei j e)

-- the third of the numbers is that of the kind
module _ (n : Numbers) (k : ℕ) (ek : k ≡ kind_number n.kind) (d : Text) (at : ℕ) (fits : at + length (row_numbers n) ≤ length d) where
  all-three : at + length (number_bytes n.item ++ (number_bytes n.spec ++ number_bytes k)) ≤ length d
  all-three = rw ek fits

  module _ (o : Text) (i : ℕ) (eo : o ≡ splice d at (number_bytes n.item)) (ei : i ≡ at + length (number_bytes n.item)) (p : Text) (j : ℕ) (ep : p ≡ splice o i (number_bytes n.spec)) (ej : j ≡ i + length (number_bytes n.spec)) where
    pub kind-room : j + length (number_bytes k) ≤ length p
    kind-room = three_third d at (number_bytes n.item) (number_bytes n.spec) (number_bytes k) all-three o i eo ei p j ep ej

    pub kind-put : (q : Text) → q ≡ splice p j (number_bytes k) → q ≡ splice d at (row_numbers n)
    kind-put q h = rw (← ek) (three-put d at (number_bytes n.item) (number_bytes n.spec) (number_bytes k) all-three o i eo ei p j ep ej q h)

    pub kind-end : (r : ℕ) → r ≡ j + length (number_bytes k) → r ≡ at + length (row_numbers n)
    kind-end r h = rw (← ek) (three-end d at (number_bytes n.item) (number_bytes n.spec) (number_bytes k) all-three o i eo ei p j ep ej r h)

-- a row
module _ (specs name : Text) (n : Numbers) (e : Ends) where
  abbrev first : Text
  first = row_numbers n

  abbrev second : Text
  second = text_bytes (or_empty (row_text_meant specs name e.source))

  abbrev third : Text
  third = destination_bytes (row_text_meant specs name e.destination)

  -- its bytes
  pieces : row_bytes (row_of_ends specs name n e) ≡ first ++ (second ++ third)
  unfolding row_bytes row_of_ends
  pieces =
      let a = number_bytes n.item in
      let b = number_bytes n.spec in
      let c = number_bytes (kind_number n.kind) in
      sym (append_assoc a (b ++ c) (second ++ third) ∙ ap (λ (x : Text). a ++ x) (append_assoc b c (second ++ third)))

  -- how many there are
  pub row-size : (a b c s d k : ℕ) → k ≡ kind_number n.kind → a ≡ length (number_bytes n.item) → b ≡ length (number_bytes n.spec) → c ≡ length (number_bytes k) → s ≡ length (text_bytes (or_empty (row_text_meant specs name e.source))) → d ≡ length (destination_bytes (row_text_meant specs name e.destination)) → a + b + c + s + d ≡ length (row_bytes (row_of_ends specs name n e))
  row-size a b c s d k ek ea eb ec es ed =
      let A = number_bytes n.item in
      let B = number_bytes n.spec in
      let C = number_bytes (kind_number n.kind) in
      omega (arith, ap (λ (i : ℕ). length (number_bytes i)) ek, ap length pieces, length-append first (second ++ third), length-append A (B ++ C), length-append B C, length-append second third)

  -- it is written
  module _ (d : Text) (at : ℕ) (fits : at + length (row_bytes (row_of_ends specs name n e)) ≤ length d) where
    all : at + length (first ++ (second ++ third)) ≤ length d
    all = rw pieces at fits

    pub row_first : at + length (row_numbers n) ≤ length d
    row_first = three-first d at first second third all

    module _ (o : Text) (i : ℕ) (eo : o ≡ splice d at (row_numbers n)) (ei : i ≡ at + length (row_numbers n)) where
      pub row-second : i + length (text_bytes (or_empty (row_text_meant specs name e.source))) ≤ length o
      row-second = three-second d at first second third all o i eo ei

      module _ (p : Text) (j : ℕ) (ep : p ≡ splice o i (text_bytes (or_empty (row_text_meant specs name e.source)))) (ej : j ≡ i + length (text_bytes (or_empty (row_text_meant specs name e.source)))) where
        pub row-third : j + length (destination_bytes (row_text_meant specs name e.destination)) ≤ length p
        row-third = three_third d at first second third all o i eo ei p j ep ej

        pub row_put : (q : Text) → q ≡ splice p j (destination_bytes (row_text_meant specs name e.destination)) → q ≡ splice d at (row_bytes (row_of_ends specs name n e))
        row_put q h = rw pieces (three-put d at first second third all o i eo ei p j ep ej q h)

        pub row-end : (k : ℕ) → k ≡ j + length (destination_bytes (row_text_meant specs name e.destination)) → k ≡ at + length (row_bytes (row_of_ends specs name n e))
        row-end k h = rw pieces (three-end d at first second third all o i eo ei p j ep ej k h)
