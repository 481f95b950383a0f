-- What a cursor's answer says of its list, and a walk over an item list that was read. Assumes nothing.
use mathlib.Core.Path.{◌≡◌, refl, sym, ap, ◌∙◌}
use mathlib.Core.Bool.{Bool, true, false, cond}
use mathlib.Core.List.{List, ◌∷◌}
use mathlib.Core.Option.{some}
use Prim.Native.Nat.{ℕ, suc, ◌+◌, ◌-◌, ◌<◌, ◌≤◌}
use native.Mathlib.Omega.{arith}
use borrow.Author.Tests.{lt-ltb, le-ltb, ltb-true, ltb-false, leb-true, leb-false}
use lib.Dec.{leb, ltb}
use lib.ListN.{length, take, drop}
use Rattle.meaning.specs.Bytes.{Text}
use Rattle.meaning.specs.Limits.{name_bytes, item_list_bytes, item_count}
use Rattle.meaning.specs.Spec.{accepted, refused}
use Rattle.meaning.specs.Number as meaning
use Rattle.meaning.specs.Lists.{item_record, read_items}
use Rattle.promises.specs.Facts.{records}
use Rattle.promises.proofs.Members.{names-count}
use Rattle.promises.proofs.Steps.{items-shrink}
use Rattle.number.specs.declared.Number.{Number}
use Rattle.number.specs.Reading.{number_at}
use Rattle.std.specs.Prelude.{Option, None, Some, Result, Ok, Err}
use Rattle.refusal.specs.declared.Refusal.{Refusal}
use Rattle.refusal.specs.declared.Refusal.TheVariants as refusals
use Rattle.list.specs.declared.cursor.Record.{Record}
use Rattle.list.specs.declared.stretch.Stretch.{Stretch}
use Rattle.list.specs.Cursor.{placed_step, step_at}
use Rattle.list.proofs.Texts.{TextAt, stands, malformed, text_at_lem, bytes-taken, bytes-short, record_at, placed-bytes, text-from, number-within, text-none}
use Rattle.list.proofs.Records.{accepted-records, first_of, records-no, records-took}
use Rattle.list.proofs.ItemRecords.{item-beyond, item-long, item-read}

-- the answers of `record_at`
pub record-short : (s : Text) (start len : ℕ) → length s - start < len → Err refusals.Malformed ≡ placed_step s (meaning.read_bytes len (drop start s))
record-short s start len h = rw (bytes-short s start len h)

pub record-there : (s : Text) (start len : ℕ) → start ≤ length s → len ≤ length s - start → Ok (Some (record_at start len)) ≡ placed_step s (meaning.read_bytes len (drop start s))
record-there s start len k h =
    let w : start + len ≤ length s = omega arith in
    sym (ap (placed_step s) (bytes-taken s start len w) ∙ placed-bytes s start len w)

-- the answers of `Cursor::next`
pub step_past : (s : Text) (at : ℕ) → length s ≤ at → Ok None ≡ step_at s at
unfolding step_at
step_past s at h = rw (le-ltb at (length s) h)

step-reads : (s : Text) (at : ℕ) → at < length s → step_at s at ≡ placed_step s (meaning.read_text (drop at s))
unfolding step_at
step-reads s at h = rw (lt-ltb at (length s) h)

pub step-number : (s : Text) (at : ℕ) (x : Number) (a : Option Number) (r : Result (Option (Record Stretch)) Refusal) → at < length s → a ≡ number_at s at → a ≡ Some x → r ≡ placed_step s (meaning.read_bytes x.value (drop x.next s)) → r ≡ step_at s at
step-number s at x a r h e f g = g ∙ sym (ap (placed_step s) (text-from s at x (sym e ∙ f))) ∙ sym (step-reads s at h)

pub step-starts : (s : Text) (at : ℕ) (x : Number) (a : Option Number) → a ≡ number_at s at → a ≡ Some x → x.next ≤ length s
step-starts s at x a e f = number-within s at x (sym e ∙ f)

pub step-none : (s : Text) (at : ℕ) (a : Option Number) → at < length s → a ≡ number_at s at → a ≡ None → Err refusals.Malformed ≡ step_at s at
step-none s at a h e f = sym (ap (placed_step s) (text-none s at (sym e ∙ f))) ∙ sym (step-reads s at h)

-- a record that a cursor at `at` hands back: its bytes stand in the list from `start` on, and the next record begins where they end
pub record Taken (s : Text) (at start len next : ℕ) : Type 0 where
  pub here : at < length s
  pub reads : meaning.read_text (drop at s) ≡ meaning.took (take len (drop start s)) (drop next s)
  pub ends : next ≡ start + len
  pub within : next ≤ length s
  pub on : at < next

-- a refusal that a cursor answers: no text is well formed there
pub record Turned (s : Text) (at : ℕ) (e : Refusal) : Type 0 where
  pub is : e ≡ refusals.Malformed
  pub here : at < length s
  pub reads : meaning.read_text (drop at s) ≡ meaning.no 13

-- what an answer says
abbrev Says : Text → ℕ → Result (Option (Record Stretch)) Refusal → Type 0
Says s at (Ok (Some r)) = Taken s at r.value.at r.value.len r.next.at
Says s at (Ok None) = length s ≤ at
Says s at (Err e) = Turned s at e

says : (s : Text) (at : ℕ) → Says s at (step_at s at)
unfolding step_at
says s at = go (ltb at (length s)) refl
  where
    within : (w : Result (Option (Record Stretch)) Refusal) → placed_step s (meaning.read_text (drop at s)) ≡ w → at < length s → TextAt s at → Says s at w
    within w e h (stands start len f k g) = rw (← (sym (ap (placed_step s) g ∙ placed-bytes s start len k) ∙ e)) (record { here = h; reads = g; ends = refl; within = k; on = omega arith })
    within w e h (malformed g) = rw (← (sym (ap (placed_step s) g) ∙ e)) (record { is = refl; here = h; reads = g })

    go : (b : Bool) → ltb at (length s) ≡ b → Says s at (cond b (placed_step s (meaning.read_text (drop at s))) (Ok None))
    go true e = within (placed_step s (meaning.read_text (drop at s))) refl (ltb-true at (length s) e) (text_at_lem s at)
    go false e = ltb-false at (length s) e

says_of : (s : Text) (at : ℕ) (w : Result (Option (Record Stretch)) Refusal) → step_at s at ≡ w → Says s at w
says_of s at w e = rw (sym e) (says s at)

pub step-taken : (s : Text) (at : ℕ) (r : Record Stretch) → step_at s at ≡ Ok (Some r) → Taken s at r.value.at r.value.len r.next.at
step-taken s at r e = says_of s at (Ok (Some r)) e

pub step_end : (s : Text) (at : ℕ) → step_at s at ≡ Ok None → length s ≤ at
step_end s at e = says_of s at (Ok None) e

pub step-refused : (s : Text) (at : ℕ) (e : Refusal) → step_at s at ≡ Err e → Turned s at e
step-refused s at e q = says_of s at (Err e) q

-- what is left of an item list that was read, from a place on: record number j and those after it
pub record ItemsLeft (items : Text) (at j : ℕ) (rest : List Text) : Type 0 where
  pub within : at ≤ length items
  pub reads : records item_record j (drop at items) ≡ accepted rest
  pub count : j + length rest ≤ item_count

-- the whole list, at its start
pub items_left : (items : Text) (names : List Text) → read_items items ≡ accepted names → ItemsLeft items 0 0 names
unfolding read_items
items_left items names e = record { within = omega arith; reads = accepted-records item_list_bytes item_record items names e; count = omega (arith, names-count items names e) }

-- the next item: what is left is its name before what is left after it
pub record ItemNext (items : Text) (start len at' j : ℕ) (rest : List Text) : Type 0 where
  pub after : List Text
  pub is : rest ≡ take len (drop start items) ∷ after
  pub left : ItemsLeft items at' (suc j) after
  pub short : length (take len (drop start items)) ≤ name_bytes
  pub inside : start + len ≤ length items

module _ (items : Text) (at j : ℕ) (rest : List Text) (l : ItemsLeft items at j rest) where
  -- no item that is left is refused
  not-refused : {A : Type 0} (n : ℕ) → at < length items → item_record j (drop at items) ≡ meaning.no n → A
  not-refused n h e =
      let q : refused n (some j) ≡ accepted rest = sym (records-no item_record items-shrink items at j n h e) ∙ l.reads in
      absurd (let z : ◌≡◌ {A = ℕ} 0 1 = cc in omega arith)

  pub items-next : (r : Record Stretch) → step_at items at ≡ Ok (Some r) → ItemNext items r.value.at r.value.len r.next.at j rest
  items-next r e = go (ltb j item_count) refl (leb (length name) name_bytes) refl
    where
      name : Text
      name = take r.value.len (drop r.value.at items)

      t : Taken items at r.value.at r.value.len r.next.at
      t = step-taken items at r e

      go : (a : Bool) → ltb j item_count ≡ a → (b : Bool) → leb (length name) name_bytes ≡ b → ItemNext items r.value.at r.value.len r.next.at j rest
      go false h b k = not-refused 14 t.here (item-beyond j (drop at items) (ltb-false j item_count h))
      go true h false k = not-refused 15 t.here (item-long j (drop at items) (ltb-true j item_count h) name (drop r.next.at items) t.reads (leb-false (length name) name_bytes k))
      go true h true k =
          let short = leb-true (length name) name_bytes k in
          let q = records-took item_record items-shrink items at j name (drop r.next.at items) t.here (item-read j (drop at items) (ltb-true j item_count h) name (drop r.next.at items) t.reads short) in
          let f = first_of name (records item_record (suc j) (drop r.next.at items)) rest (sym q ∙ l.reads) in
          record {
            after = f.after;
            is = f.is;
            left = record { within = t.within; reads = f.left; count = omega (arith, ap length f.is, l.count) };
            short = short;
            inside = omega (arith, t.ends, t.within);
          }
