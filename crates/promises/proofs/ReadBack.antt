-- Demand 3, second: a forward listing that fits a row list is read back as the same rows. Assumes nothing.
use mathlib.Core.Path.{◌≡◌, refl, ap}
use mathlib.Core.Logic.{◌⊎◌, inl, inr}
use mathlib.Core.Bool.{true}
use mathlib.Core.List.{List, [], ◌∷◌, ◌++◌, append_assoc}
use mathlib.Core.Option.{Option, none, some, map}
use Prim.Native.Nat.{ℕ, suc, ◌+◌, ◌≤◌, ◌<◌}
use native.Mathlib.Omega.{arith}
use borrow.Author.Tests.{lt-ltb, le-leb, lt-leb, leb-true}
use lib.Dec.{eqb, leb}
use lib.ListN.{length, length-append}
use Rattle.meaning.specs.Bytes.{Text, ◌and◌, ◌or◌, every, each, numbered, hex_digit, lower_hex_digit, lower_byte, lower, object_id, In, here, there}
use Rattle.meaning.specs.Limits.{row_list_bytes, spec_count, item_count, largest_number, id_digits}
use Rattle.meaning.specs.Spec.{Answer, accepted, Spec}
use Rattle.meaning.specs.Number.{number_bytes, text_bytes, took}
use Rattle.meaning.specs.Lists.{read_specs, read_items, read_list}
use Rattle.meaning.specs.Rows.{Row, destination_bytes, row_bytes, row_list_of, read_destination, read_front, read_row, object_digits, row_passes, row_record, read_rows}
use Rattle.meaning.specs.Match.{form_of, object_source, whole, Mapped, unmapped, mapped, maps_to}
use Rattle.meaning.specs.Listing.{Ends, forward_ends, reverse_ends, group_rows, object_row, object_rows, not_excluded, forward_rows, reverse_rows}
use Rattle.meaning.specs.Entries.{match_lhs, verdict_on, validated}
use Rattle.promises.specs.Demands.{ListingsReadBack}
use Rattle.promises.proofs.Laws.{and_left, and_right, and_both, or_cases, in-append, keep-in, each_in, numbered-in, each_long, map_same}
use Rattle.promises.proofs.Reading.{read_number_lem, read-bytes, read-text, number-long, records-read}
use Rattle.promises.proofs.Members.{group-count, names-count}
use Rattle.promises.proofs.Listings.{from-group, object-source}

-- digits in lower case

lower-hex : (b : ℕ) → hex_digit b ≡ true → lower_hex_digit (lower_byte b) ≡ true
lower-hex b e = go (or_cases (leb 48 b and leb b 57) _ e)
  where
    letters : ((leb 65 b and leb b 70) ≡ true) ⊎ ((leb 97 b and leb b 102) ≡ true) → lower_hex_digit (lower_byte b) ≡ true
    letters (inl p) =
        let l : 65 ≤ b = leb-true 65 b (and_left _ _ p) in
        let h : b ≤ 70 = leb-true b 70 (and_right (leb 65 b) _ p) in
        rw (le-leb 65 b l, le-leb b 90 (omega arith), le-leb 48 (b + 32) (omega arith), lt-leb (b + 32) 57 (omega arith), le-leb 97 (b + 32) (omega arith), le-leb (b + 32) 102 (omega arith))
    letters (inr p) =
        let l : 97 ≤ b = leb-true 97 b (and_left _ _ p) in
        let h : b ≤ 102 = leb-true b 102 (and_right (leb 97 b) _ p) in
        rw (le-leb 65 b (omega arith), lt-leb b 90 (omega arith), le-leb 48 b (omega arith), lt-leb b 57 (omega arith), le-leb 97 b (omega arith), le-leb b 102 (omega arith))

    go : ((leb 48 b and leb b 57) ≡ true) ⊎ (((leb 65 b and leb b 70) or (leb 97 b and leb b 102)) ≡ true) → lower_hex_digit (lower_byte b) ≡ true
    go (inl p) =
        let l : 48 ≤ b = leb-true 48 b (and_left _ _ p) in
        let h : b ≤ 57 = leb-true b 57 (and_right (leb 48 b) _ p) in
        rw (lt-leb 65 b (omega arith), le-leb 48 b (omega arith), le-leb b 57 (omega arith))
    go (inr p) = letters (or_cases _ _ p)

lower-every : (t : Text) → every hex_digit t ≡ true → every lower_hex_digit (lower t) ≡ true
lower-every [] e = refl
lower-every (x ∷ t) e = and_both (lower-hex x (and_left _ (every hex_digit t) e)) (lower-every t (and_right (hex_digit x) _ e))

lower-length : (t : Text) → length (lower t) ≡ length t
lower-length [] = refl
lower-length (x ∷ t) = ap suc (lower-length t)

digits-lower : (t : Text) → object_id t ≡ true → object_digits (lower t) ≡ true
unfolding object_id object_digits
digits-lower t e = rw (lower-length t) (and_both {a = eqb (length t) id_digits} (and_left (eqb (length t) id_digits) (every hex_digit t) e) (lower-every t (and_right (eqb (length t) id_digits) _ e)))

-- what every row of a listing has: numbers that fit, and what question 16 asks
pub record Sound (specs items : ℕ) (r : Row) : Type 0 where
  pub item-fits : r.item ≤ items
  pub spec-fits : r.spec < specs
  pub kind_fits : r.kind ≤ 1
  pub kind-passes : (eqb r.kind 0 or (eqb r.kind 1 and object_digits r.source)) ≡ true

-- a row of an object source
object-sound : (specs items i : ℕ) → i < specs → (o : Option Text) (m : Mapped) → ((t : Text) → o ≡ some t → object_id t ≡ true) → {r : Row} → In r (object_row i o m) → Sound specs items r
object-sound specs items i h none m d k = elim k [ ]
object-sound specs items i h (some t) unmapped d k = elim k [ ]
object-sound specs items i h (some t) (mapped dst) d here = record { item-fits = omega arith; spec-fits = h; kind_fits = omega arith; kind-passes = digits-lower t (d t refl) }
object-sound specs items i h (some t) (mapped dst) d (there k) = elim k [ ]

-- a row of a name, forward or in reverse
pub name-sound : (make : Spec → Text → Option Ends) (group : List Spec) (names : List Text) (r : Row) → In r (group_rows make group names) → Sound (length group) (length names) r
name-sound make group names r m =
    let f = from-group make group names r m in
    let k = f.is_name in
    record { item-fits = omega (arith, f.item-fits); spec-fits = f.spec-fits; kind_fits = omega (arith, k); kind-passes = rw k }

-- every forward row
pub forward-sound : (group : List Spec) (names : List Text) (r : Row) → In r (forward_rows group names) → Sound (length group) (length names) r
unfolding forward_rows object_rows
forward-sound group names r m = go (in-append (each (numbered group) object_rows) (keep-in (not_excluded group) _ m).0)
  where
    go : In r (each (numbered group) object_rows) ⊎ In r (group_rows forward_ends group names) → Sound (length group) (length names) r
    go (inl h) =
        let x = each_in object_rows (numbered group) h in
        let n = numbered-in 0 group x.1 in
        object-sound (length group) (length names) x.0.0 (omega (arith, n.0)) (object_source x.0.1) (maps_to whole (map form_of x.0.1.destination)) (λ t e. (object-source x.0.1 t e).1) x.2
    go (inr h) = name-sound forward_ends group names r h

-- every reverse row
pub reverse-sound : (group : List Spec) (names : List Text) (r : Row) → In r (reverse_rows group names) → Sound (length group) (length names) r
unfolding reverse_rows
reverse-sound group names r m = name-sound reverse_ends group names r (keep-in (not_excluded group) (group_rows reverse_ends group names) m).0

-- a row is read back

read-destination : (o : Option Text) (s : Text) → length (destination_bytes o) ≤ largest_number → read_destination (destination_bytes o ++ s) ≡ took o s
unfolding read_destination
read-destination none s h = rw (read_number_lem 0 s (omega arith))
read-destination (some t) s h =
    let n = number-long (suc (length t)) in
    let e = length-append (number_bytes (suc (length t))) t in
    rw (append_assoc (number_bytes (suc (length t))) t s, read_number_lem (suc (length t)) (t ++ s) (omega arith), read-bytes t s)

-- the numbers of a row are small enough to be written
record Fits (r : Row) : Type 0 where
  item-small : r.item ≤ largest_number
  spec-small : r.spec ≤ largest_number
  kind-small : r.kind ≤ largest_number
  source-small : length r.source ≤ largest_number
  destination-small : length (destination_bytes r.destination) ≤ largest_number

-- a row has the bytes of its source and of its destination, and more
pub row-length : (r : Row) → length r.source + length (destination_bytes r.destination) < length (row_bytes r)
unfolding row_bytes text_bytes
row-length r =
    let a = length-append (number_bytes r.item) (number_bytes r.spec ++ (number_bytes r.kind ++ (text_bytes r.source ++ destination_bytes r.destination))) in
    let b = length-append (number_bytes r.spec) (number_bytes r.kind ++ (text_bytes r.source ++ destination_bytes r.destination)) in
    let c = length-append (number_bytes r.kind) (text_bytes r.source ++ destination_bytes r.destination) in
    let d = length-append (text_bytes r.source) (destination_bytes r.destination) in
    let e = length-append (number_bytes (length r.source)) r.source in
    let n = number-long r.item in
    omega arith

read-row : (r : Row) (s : Text) → Fits r → read_row (row_bytes r ++ s) ≡ took r s
unfolding read_row read_front row_bytes
read-row r s f =
    rw (append_assoc, append_assoc, append_assoc, append_assoc, read_number_lem r.item _ f.item-small, read_number_lem r.spec _ f.spec-small, read_number_lem r.kind _ f.kind-small, read-text r.source _ f.source-small, read-destination r.destination s f.destination-small)

read-row-record : (specs j : ℕ) (r : Row) (s : Text) → Fits r → row_passes specs r ≡ true → row_record specs j (row_bytes r ++ s) ≡ took r s
unfolding row_record
read-row-record specs j r s f p = rw (read-row r s f, p)

-- a list of rows that fit and pass is read back
rows_back : (specs : ℕ) (rows : List Row) → ((r : Row) → In r rows → Fits r) → ((r : Row) → In r rows → row_passes specs r ≡ true) → length (row_list_of rows) ≤ row_list_bytes → read_rows specs (row_list_of rows) ≡ accepted rows
unfolding read_rows read_list row_list_of
rows_back specs rows fits passes h =
    rw (le-leb (length (each rows row_bytes)) row_list_bytes h, records-read (row_record specs) row_bytes (λ r. r) rows (length (each rows row_bytes)) 0 (λ r m. let n = row-length r in omega arith) (λ r m j b s. read-row-record specs j r s (fits r m) (passes r m)) (omega arith))
    (ap {B = Answer (List Row)} accepted (map_same rows))

-- it passes under its group's count of specs, and under a higher one
sound-passes : (specs items most : ℕ) (r : Row) → Sound specs items r → specs ≤ most → row_passes most r ≡ true
unfolding row_passes
sound-passes specs items most r s h = and_both (lt-ltb r.spec most (omega (arith, s.spec-fits))) s.kind-passes

-- rows of a listing are read back under any such count, where their bytes fit a row list
pub sound-back-under : (specs items most : ℕ) (rows : List Row) → specs ≤ spec_count → items ≤ item_count → specs ≤ most → ((r : Row) → In r rows → Sound specs items r) → length (row_list_of rows) ≤ row_list_bytes → read_rows most (row_list_of rows) ≡ accepted rows
unfolding row_list_of
sound-back-under specs items most rows a b w sound h = rows_back most rows fits (λ r m. sound-passes specs items most r (sound r m) w) h
  where
    fits : (r : Row) → In r rows → Fits r
    fits r m =
        let s = sound r m in
        let c = row-length r in
        let d = each_long row_bytes m in
        record { item-small = omega arith; spec-small = omega arith; kind-small = omega arith; source-small = omega arith; destination-small = omega arith }

-- under their group's own count
pub sound_back : (specs items : ℕ) (rows : List Row) → specs ≤ spec_count → items ≤ item_count → ((r : Row) → In r rows → Sound specs items r) → length (row_list_of rows) ≤ row_list_bytes → read_rows specs (row_list_of rows) ≡ accepted rows
sound_back specs items rows a b sound h = sound-back-under specs items specs rows a b (omega arith) sound h

-- a forward listing that fits a row list is read back under any such count
pub forward-back : (specs items : Text) (group : List Spec) (names : List Text) → read_specs 0 specs ≡ accepted group → read_items items ≡ accepted names → length (row_list_of (forward_rows group names)) ≤ row_list_bytes → (most : ℕ) → length group ≤ most → read_rows most (row_list_of (forward_rows group names)) ≡ accepted (forward_rows group names)
forward-back specs items group names e f h most w = sound-back-under (length group) (length names) most (forward_rows group names) (group-count 0 specs group e) (names-count items names f) w (forward-sound group names) h

-- the second statement of demand 3
pub listings-read-back : ListingsReadBack
unfolding match_lhs verdict_on validated
listings-read-back specs items group names e f h = (rw (e, f), back, rw (e, back))
  where
    back : read_rows (length group) (row_list_of (forward_rows group names)) ≡ accepted (forward_rows group names)
    back = sound_back (length group) (length names) (forward_rows group names) (group-count 0 specs group e) (names-count items names f) (forward-sound group names) h
