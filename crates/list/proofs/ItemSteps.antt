-- An item at a place of its list: what is answered there, and what an answer says of the list that is being read. Assumes nothing.
use mathlib.Core.Path.{◌≡◌, refl, sym, ap, ◌∙◌}
use mathlib.Core.Bool.{Bool, true, false, cond}
use Prim.Native.Nat.{ℕ, ◌+◌, ◌-◌, ◌<◌, ◌≤◌}
use native.Mathlib.Omega.{arith}
use borrow.Author.Tests.{lt-ltb, le-ltb, ltb-true, ltb-false, leb-true, leb-false}
use lib.Dec.{leb, ltb}
use lib.ListN.{length, take, drop}
use Rattle.meaning.specs.Bytes.{Text}
use Rattle.meaning.specs.Limits.{name_bytes, item_list_bytes, item_count}
use Rattle.meaning.specs.Number as meaning
use Rattle.meaning.specs.Lists.{item_record, read_items}
use Rattle.promises.specs.Facts.{records}
use Rattle.promises.proofs.Members.{items-long}
use Rattle.promises.proofs.Steps.{items-shrink, list-records}
use Rattle.parse.proofs.Parts.{part_length}
use Rattle.std.specs.Prelude.{Option, None, Some, Result, Ok, Err}
use Rattle.refusal.specs.declared.Refusal.{Refusal}
use Rattle.refusal.specs.declared.Refusal.TheVariants as refusals
use Rattle.refusal.specs.Numbers.{number_of, question}
use Rattle.list.specs.declared.cursor.Record.{Record}
use Rattle.list.specs.declared.stretch.Stretch.{Stretch}
use Rattle.list.specs.Cursor.{placed_step, step_at}
use Rattle.list.specs.Checked.{Checked, checked, numbered, item_at}
use Rattle.list.proofs.Texts.{TextAt, stands, malformed, text_at_lem, record_at, placed-bytes}
use Rattle.list.proofs.ItemRecords.{item-beyond, item-malformed, item-long, item-read}
use Rattle.list.proofs.Steps.{Taken, step-taken, step_end, step-refused}
use Rattle.list.specs.declared.refused.Refused.{Refused}
use Rattle.list.proofs.Readings.{numbered-ok, numbered-err, Reading, reading-starts, reading-whole, reading-refused, reading-more}

-- the answers of `item_at`
module _ (s : Text) (at j : ℕ) where
  pub item-past : length s ≤ at → Ok None ≡ item_at j s at
  unfolding item_at
  item-past h = rw (le-ltb at (length s) h)

  item-reads : at < length s → item_at j s at ≡ placed_step s (item_record j (drop at s))
  unfolding item_at
  item-reads h = rw (lt-ltb at (length s) h)

  refused-at : (n : ℕ) → at < length s → item_record j (drop at s) ≡ meaning.no n → Err (question n) ≡ item_at j s at
  refused-at n h e = sym (item-reads h ∙ ap (placed_step s) e)

  pub item-full : at < length s → item_count ≤ j → Err refusals.TooManyRecords ≡ item_at j s at
  item-full h k = refused-at 14 h (item-beyond j (drop at s) k)

  module _ (w : Result (Option (Record Stretch)) Refusal) (ew : w ≡ step_at s at) where
    pub item-none : w ≡ Ok None → Ok None ≡ item_at j s at
    item-none e = item-past (step_end s at (sym ew ∙ e))

    pub item-turned : (e : Refusal) → j < item_count → w ≡ Err e → Err e ≡ item_at j s at
    item-turned e h q =
        let t = step-refused s at e (sym ew ∙ q) in
        rw t.is (refused-at 13 t.here (item-malformed j (drop at s) h t.reads))

    module _ (r : Record Stretch) (h : j < item_count) (e : w ≡ Ok (Some r)) where
      t : Taken s at r.value.at r.value.len r.next.at
      t = step-taken s at r (sym ew ∙ e)

      inside : r.value.at + r.value.len ≤ length s
      inside = omega (arith, t.ends, t.within)

      size : length (take r.value.len (drop r.value.at s)) ≡ r.value.len
      size = part_length s r.value.at r.value.len inside

      pub item-named-long : name_bytes < r.value.len → Err refusals.NameTooLong ≡ item_at j s at
      item-named-long k = refused-at 15 t.here (item-long j (drop at s) h (take r.value.len (drop r.value.at s)) (drop r.next.at s) t.reads (omega (arith, size)))

      pub item-named : r.value.len ≤ name_bytes → Ok (Some r) ≡ item_at j s at
      item-named k =
          let q = item-read j (drop at s) h (take r.value.len (drop r.value.at s)) (drop r.next.at s) t.reads (omega (arith, size)) in
          let p : placed_step s (meaning.took (take r.value.len (drop r.value.at s)) (drop r.next.at s)) ≡ Ok (Some (record_at r.value.at r.value.len)) = rw t.ends (placed-bytes s r.value.at r.value.len inside) in
          let c : r ≡ record_at r.value.at r.value.len = rw (← t.ends) in
          ap (λ (x : Record Stretch). Ok (Some x)) c ∙ sym p ∙ sym (item-reads t.here ∙ ap (placed_step s) q)

-- what an answer says
record ItemTaken (s : Text) (at j start len next : ℕ) : Type 0 where
  here : at < length s
  reads : item_record j (drop at s) ≡ meaning.took (take len (drop start s)) (drop next s)
  within : next ≤ length s
  on : at < next

record ItemTurned (s : Text) (at j n : ℕ) : Type 0 where
  here : at < length s
  reads : item_record j (drop at s) ≡ meaning.no n

abbrev Says : Text → ℕ → ℕ → Result (Option (Record Stretch)) Refusal → Type 0
Says s at j (Ok (Some r)) = ItemTaken s at j r.value.at r.value.len r.next.at
Says s at j (Ok None) = length s ≤ at
Says s at j (Err e) = ItemTurned s at j (number_of e)

says : (s : Text) (at j : ℕ) → Says s at j (item_at j s at)
unfolding item_at
says s at j = go (ltb at (length s)) refl
  where
    refuses : (n : ℕ) → number_of (question n) ≡ n → at < length s → item_record j (drop at s) ≡ meaning.no n → Says s at j (placed_step s (item_record j (drop at s)))
    refuses n q h e = rw e (record { here = h; reads = rw q e })

    name : (start len : ℕ) → j < item_count → at < length s → at < start → start + len ≤ length s → meaning.read_text (drop at s) ≡ meaning.took (take len (drop start s)) (drop (start + len) s) → (b : Bool) → leb (length (take len (drop start s))) name_bytes ≡ b → Says s at j (placed_step s (item_record j (drop at s)))
    name start len l h f k g false e = refuses 15 refl h (item-long j (drop at s) l (take len (drop start s)) (drop (start + len) s) g (leb-false (length (take len (drop start s))) name_bytes e))
    name start len l h f k g true e =
        let q = item-read j (drop at s) l (take len (drop start s)) (drop (start + len) s) g (leb-true (length (take len (drop start s))) name_bytes e) in
        rw (ap (placed_step s) q ∙ placed-bytes s start len k) (record { here = h; reads = q; within = k; on = omega arith })

    text : j < item_count → at < length s → TextAt s at → Says s at j (placed_step s (item_record j (drop at s)))
    text l h (stands start len f k g) = name start len l h f k g (leb (length (take len (drop start s))) name_bytes) refl
    text l h (malformed g) = refuses 13 refl h (item-malformed j (drop at s) l g)

    within : at < length s → (b : Bool) → ltb j item_count ≡ b → Says s at j (placed_step s (item_record j (drop at s)))
    within h false e = refuses 14 refl h (item-beyond j (drop at s) (ltb-false j item_count e))
    within h true e = text (ltb-true j item_count e) h (text_at_lem s at)

    go : (b : Bool) → ltb at (length s) ≡ b → Says s at j (cond b (placed_step s (item_record j (drop at s))) (Ok None))
    go true e = within (ltb-true at (length s) e) (ltb j item_count) refl
    go false e = ltb-false at (length s) e

says_of : (s : Text) (at j : ℕ) (w r : Result (Option (Record Stretch)) Refusal) → w ≡ item_at j s at → w ≡ r → Says s at j r
says_of s at j w r e f = rw (sym f ∙ e) (says s at j)

-- an item list that is being read
pub items-start : (s : Text) (at : ℕ) → at ≡ 0 → Reading item_record s at 0
items-start s at e = rw e (reading-starts item_record items-shrink s)

module _ (s : Text) (at j : ℕ) (w : Result (Option (Record Stretch)) Refusal) (ew : w ≡ item_at j s at) (m : Result (Option (Record Stretch)) Refused) (em : m ≡ numbered w j) where
  module _ (o : Option (Record Stretch)) (eo : m ≡ Ok o) (r : Record Stretch) (e : o ≡ Some r) where
    told : ItemTaken s at j r.value.at r.value.len r.next.at
    told = says_of s at j w (Ok (Some r)) ew (numbered-ok w j (Some r) (sym em ∙ eo ∙ ap (λ (x : Option (Record Stretch)). Ok x) e))

    -- less of the list is left
    pub items-less : length s - r.next.at < length s - at
    items-less = omega (arith, told.on, told.within)

    -- one more item
    pub items_more : Reading item_record s at j → Reading item_record s r.next.at (j + 1)
    items_more p = reading-more item_record items-shrink s at j p told.here (take r.value.len (drop r.value.at s)) r.next.at told.reads told.on told.within

  -- at the end all are read
  pub items-all : m ≡ Ok None → Reading item_record s at j → record { refusal = 0; «record» = 0; count = j } ≡ checked (records item_record 0 s)
  items-all e p = reading-whole item_record items-shrink s at j p (says_of s at j w (Ok None) ew (numbered-ok w j None (sym em ∙ e)))

  -- an item is refused
  pub items-stop : (x : Refused) → m ≡ Err x → Reading item_record s at j → record { refusal = number_of x.refusal; «record» = x.«record»; count = 0 } ≡ checked (records item_record 0 s)
  items-stop x q p =
      let n = numbered-err w j x (sym em ∙ q) in
      let t : ItemTurned s at j (number_of x.refusal) = says_of s at j w (Err x.refusal) ew n.is in
      rw n.number (reading-refused item_record items-shrink s at j p t.here (number_of x.refusal) t.reads)

-- the answers of `read_items`
pub items-too-long : (s : Text) → item_list_bytes < length s → record { refusal = 12; «record» = 0; count = 0 } ≡ checked (read_items s)
items-too-long s h = rw (items-long s h)

pub items-are : (s : Text) (r : Checked) → length s ≤ item_list_bytes → r ≡ checked (records item_record 0 s) → r ≡ checked (read_items s)
unfolding read_items
items-are s r h e = e ∙ ap checked (sym (list-records item_list_bytes item_record s h))
