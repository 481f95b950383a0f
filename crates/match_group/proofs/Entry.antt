-- A listing as a whole: measured, then written, and how it meets its buffer. Assumes nothing.
use mathlib.Core.Path.{◌≡◌, refl, sym, ap, ◌∙◌}
use mathlib.Core.Bool.{Bool, true, false}
use mathlib.Core.List.{List, [], ◌∷◌}
use mathlib.Core.Option.{Option, some}
use Prim.Native.Nat.{ℕ, ◌+◌, ◌*◌, ◌≤◌, ◌<◌}
use native.Mathlib.Omega.{arith}
use lib.ListN.{length, take, length-append}
use Rattle.meaning.specs.Bytes.{Text}
use Rattle.meaning.specs.Spec.{Spec, accepted, refused}
use Rattle.meaning.specs.Lists.{read_specs, read_items}
use Rattle.meaning.specs.Rows.{row_list_of}
use Rattle.meaning.specs.Buffers.{MeetsOne}
use Rattle.meaning.specs.Entries.{match_lhs, match_rhs}
use Rattle.buffer.specs.declared.written.Written.{Written}
use Rattle.buffer.specs.Answers.{refused_with, short_with, done_with}
use Rattle.buffer.specs.Splice.{splice}
use Rattle.buffer.proofs.Meets.{made-refused, made-short, made-written}
use Rattle.std.specs.Prelude.{Result, Ok, Err}
use Rattle.refusal.specs.Numbers.{number_of}
use Rattle.list.specs.declared.refused.Refused.{Refused}
use Rattle.list.specs.Checked.{numbers_of}
use Rattle.list.specs.Places.{names_of, PlacesOf, PlacesRead}
use Rattle.spec_list.specs.declared.Group.{Group}
use Rattle.spec_list.specs.declared.record.SpecRecord.{SpecRecord}
use Rattle.spec_list.specs.Group.{group_meant, GroupRead}
use Rattle.list.proofs.Told.{Passed, items-passed, items-failed}
use Rattle.spec_list.proofs.Told.{GroupPassed, group-passed, group-failed}
use Rattle.matcher_table.specs.Numbers.{matcher_numbers}
use Rattle.negatives.specs.Negatives.{excluded_by}
use Rattle.match_row.specs.Asking.{Askable}
use Rattle.search.specs.Hits.{group_gives, first_bytes}
use Rattle.search.specs.Noting.{PlacesIn, TableReady}
use Rattle.group_tables.specs.Standing.{NotedAll}
use Rattle.group_tables.specs.Reading.{Grouped, TableIs}
use Rattle.group_tables.proofs.Groups.{group-ready, group-noted}
use Rattle.match_group.specs.Listing.{listing_rows, listing_bytes, listing, table_bytes, listing_answer}
use Rattle.match_group.proofs.Listings.{listing-bytes}
use Rattle.match_group.proofs.Tables.{table-ready, table-bytes, places-in}

-- how a listing meets its buffer
module _ (back : Bool) (gone : Text → Bool) (specs : Text) (table : List ℕ) (group : ℕ) (items : Text) (places : List ℕ) (n a b : ℕ) (ea : a ≡ length (first_bytes back specs table group)) (eb : b ≡ length (group_gives back gone specs table group items places n)) (d : Text) where
  abbrev whole : Text
  whole = table_bytes back gone specs table group items places n

  size : a + b ≡ length whole
  size = omega (arith, length-append (first_bytes back specs table group) (group_gives back gone specs table group items places n))

  pub list-short : length d < a + b → (w : Written) → w ≡ short_with (a + b) → MeetsOne (accepted (some (table_bytes back gone specs table group items places n) ∷ [])) d d w.refusal w.«record» w.length
  list-short h w e = made-short whole (a + b) size d whole refl w h e

  pub list-fits : a + b ≤ length d → length (table_bytes back gone specs table group items places n) ≤ length d
  list-fits h = omega (arith, size)

  pub list_written : a + b ≤ length d → (o : Text) → o ≡ splice d 0 (table_bytes back gone specs table group items places n) → (w : Written) → w ≡ done_with (a + b) → MeetsOne (accepted (some (table_bytes back gone specs table group items places n) ∷ [])) d o w.refusal w.«record» w.length
  list_written h o x w e = made-written whole (a + b) size d whole refl w o h x e

-- a spec list that was refused
specs-turned : (back : Bool) (op : ℕ) (specs items : Text) (n : ℕ) (r : Option ℕ) → read_specs op specs ≡ refused n r → listing_answer back op specs items ≡ refused n r
unfolding match_lhs match_rhs
specs-turned true op specs items n r e = rw e
specs-turned false op specs items n r e = rw e

-- or read
specs-read : (back : Bool) (op : ℕ) (specs items : Text) (group : List Spec) → read_specs op specs ≡ accepted group → listing_answer back op specs items ≡ listing back group items
unfolding match_lhs match_rhs
specs-read true op specs items group e = rw e
specs-read false op specs items group e = rw e

module _ (op : ℕ) (specs : Text) (v : Result Group Refused) (eg : GroupRead specs v (read_specs op specs)) (g : Group) (z : v ≡ Ok g) where
  passed : GroupPassed specs g (read_specs op specs)
  passed = group-passed specs v (read_specs op specs) eg g z

  pub specs-grouped : Grouped specs g.specs g.count
  specs-grouped = group-ready op specs g passed

module _ (back : Bool) (op : ℕ) (specs items d : Text) (v : Result Group Refused) (eg : GroupRead specs v (read_specs op specs)) where
  pub specs-refused : (x : Refused) → v ≡ Err x → (k : ℕ) → k ≡ number_of x.refusal → (w : Written) → w ≡ refused_with k x.«record» → MeetsOne (listing_answer back op specs items) d d w.refusal w.«record» w.length
  specs-refused x z k ek w e =
      let f = group-failed specs v (read_specs op specs) eg x z in
      made-refused (listing_answer back op specs items) d (number_of x.refusal) f.carried x.«record» w (specs-turned back op specs items (number_of x.refusal) f.carried f.answer) f.number (rw (← ek) e)

  pub group-listed : (g : Group) → v ≡ Ok g → (o : Text) (w t u : ℕ) → MeetsOne (listing back (group_meant specs (take g.count g.specs)) items) d o w t u → MeetsOne (listing_answer back op specs items) d o w t u
  group-listed g z o w t u m =
      let p = passed op specs v eg g z in
      rw (specs-read back op specs items p.members p.answer, ← p.is.means) m

-- an item list that was read
module _ (items : Text) (before places : List ℕ) (c : Result ℕ Refused) (ec : PlacesRead items before places (numbers_of c)) (m : ℕ) (zc : c ≡ Ok m) where
  told : PlacesOf items places m
  told = let q : PlacesRead items before places (numbers_of (Ok m)) = rw zc at ec in q.noted refl

  pub items-placed : PlacesIn items places m
  items-placed = places-in items places m told

-- a group that was noted
module _ (specs : Text) (records : List SpecRecord) (n : ℕ) (r : Grouped specs records n) (table negatives : List ℕ) (k : ℕ) (a : NotedAll specs (take n records) table negatives k) where
  abbrev group : List Spec
  group = group_meant specs (take n records)

  is : TableIs specs table negatives n k group
  is = group-noted specs records n r table negatives k a

  pub specs-ready : matcher_numbers * n ≤ length table → TableReady specs table n
  specs-ready room = table-ready specs table negatives n k group is room

  pub specs-askable : Askable specs negatives k
  specs-askable = record { room = is.exclude.room; within = is.exclude.within }

  module _ (back : Bool) (items d : Text) where
    module _ (before places : List ℕ) (c : Result ℕ Refused) (ec : PlacesRead items before places (numbers_of c)) where
      pub items-turned : (x : Refused) → c ≡ Err x → (i : ℕ) → i ≡ number_of x.refusal → (w : Written) → w ≡ refused_with i x.«record» → MeetsOne (listing back (group_meant specs (take n records)) items) d d w.refusal w.«record» w.length
      items-turned x z i ei w e =
          let f = items-failed items c ec.answer x z in
          made-refused (listing back group items) d (number_of x.refusal) f.carried x.«record» w (rw f.answer) f.number (rw (← ei) e)

      module _ (m : ℕ) (zc : c ≡ Ok m) where
        names : Passed (read_items items) m
        names = items-passed items c ec.answer m zc

        same : table_bytes back (excluded_by specs negatives k) specs table n items places m ≡ row_list_of (listing_rows back group names.members)
        same =
            let g = excluded_by specs negatives k in
            let e : names_of (read_items items) ≡ names.members = rw names.answer in
            table-bytes specs table negatives n k group is back g items places m (told items before places c ec m zc)
            ∙ ap (listing_bytes back g group) e
            ∙ sym (listing-bytes back g group is.exclude.decides names.members)

        pub rows-listed : (o : Text) (w t u : ℕ) → MeetsOne (accepted (some (table_bytes back (excluded_by specs negatives k) specs table n items places m) ∷ [])) d o w t u → MeetsOne (listing back (group_meant specs (take n records)) items) d o w t u
        rows-listed o w t u l = rw (names.answer, ← same) l
