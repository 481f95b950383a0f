-- Where the names of an item list stand: noted one after the other while the list is read, and then looked up. Assumes nothing.
use mathlib.Core.Path.{◌≡◌, refl, sym, ap, ◌∙◌, subst}
use mathlib.Core.Bool.{Bool, true, false, cond}
use mathlib.Core.Logic.{◌⊎◌, inl, inr}
use mathlib.Core.List.{List, [], ◌∷◌, ◌++◌, append_assoc, append-nil}
use Prim.Native.Nat.{ℕ, zero, suc, ◌+◌, ◌*◌, ◌≤◌, ◌<◌}
use native.Mathlib.Nat.{eq-or-lt_of_le, zero-add}
use native.Mathlib.Numerals.{add-one}
use native.Mathlib.Omega.{arith}
use borrow.Author.Tests.{lt-ltb, ltb-true, ltb-false, leb-true, leb-false}
use lib.Dec.{leb, ltb}
use lib.ListN.{length, get_or, set, take, drop, length-set, length-append}
use lib.Seq.{get_or-set_same, get_or-set_other}
use Rattle.meaning.specs.Bytes.{Text}
use Rattle.meaning.specs.Limits.{name_bytes, item_list_bytes, item_count}
use Rattle.meaning.specs.Number as meaning
use Rattle.meaning.specs.Spec.{accepted}
use Rattle.meaning.specs.Lists.{item_record, read_items}
use Rattle.promises.proofs.Members.{names-count}
use Rattle.buffer.specs.Splice.{splice}
use Rattle.buffer.proofs.Splices.{splice-none, splice-next, splice-byte}
use Rattle.parse.specs.Places.{part_at}
use Rattle.parse.proofs.Parts.{part_length}
use Rattle.std.specs.Prelude.{Option, None, Some, Result, Ok, Err}
use Rattle.refusal.specs.declared.Refusal.{Refusal}
use Rattle.refusal.specs.Numbers.{number_of, question}
use Rattle.refusal.proofs.Numbers.{number_of-positive}
use Rattle.list.specs.declared.cursor.Record.{Record}
use Rattle.list.specs.declared.stretch.Stretch.{Stretch}
use Rattle.list.specs.Cursor.{placed_step, step_at}
use Rattle.list.specs.Checked.{Checked, checked, numbered, item_at}
use Rattle.list.specs.Places.{places_room, places_from, PlacesOf, PlacesRead}
use Rattle.list.proofs.Texts.{TextAt, stands, malformed, text_at_lem}
use Rattle.list.proofs.ItemRecords.{item-beyond, item-malformed, item-long, item-read}
use Rattle.list.proofs.Steps.{step-taken, ItemsLeft, items_left, ItemNext, items-next}
use Rattle.promises.specs.Facts.{records}
use Rattle.list.specs.declared.refused.Refused.{Refused}
use Rattle.list.proofs.Readings.{numbered-ok, numbered-err, Reading}
use Rattle.list.proofs.ItemSteps.{items-all, items-stop, items-too-long, items-are}
use Rattle.list.proofs.Told.{Passed, items-passed}

-- ---- what is left of a list

-- what follows the first of those that are left
pub drop-rest : {A : Type 0} (l : List A) (i : ℕ) (x : A) (rest : List A) → drop i l ≡ x ∷ rest → rest ≡ drop (suc i) l
drop-rest [] zero x rest e = absurd (let z : ◌≡◌ {A = ℕ} 0 1 = cc in omega arith)
drop-rest [] (suc i) x rest e = absurd (let z : ◌≡◌ {A = ℕ} 0 1 = cc in omega arith)
drop-rest (y ∷ l) zero x rest e = cc
drop-rest (y ∷ l) (suc i) x rest e = drop-rest l i x rest e

-- the first of those that are left is there
pub drop_here : {A : Type 0} (l : List A) (i : ℕ) (x : A) (rest : List A) (d : A) → drop i l ≡ x ∷ rest → (get_or l i d ≡ x) × (i < length l)
drop_here [] zero x rest d e = absurd (let z : ◌≡◌ {A = ℕ} 0 1 = cc in omega arith)
drop_here [] (suc i) x rest d e = absurd (let z : ◌≡◌ {A = ℕ} 0 1 = cc in omega arith)
drop_here (y ∷ l) zero x rest d e = (cc, omega arith)
drop_here (y ∷ l) (suc i) x rest d e = let r = drop_here l i x rest d e in (r.0, omega (arith, r.1))

-- ---- an item that is handed back

-- it is the cursor's record, within the limits
record Here (s : Text) (at j : ℕ) (r : Record Stretch) : Type 0 where
  step : step_at s at ≡ Ok (Some r)
  few : j < item_count
  short : r.value.len ≤ name_bytes
  inside : r.value.at + r.value.len ≤ length s

item-here : (s : Text) (at j : ℕ) (r : Record Stretch) → item_at j s at ≡ Ok (Some r) → Here s at j r
unfolding item_at step_at
item-here s at j r e = go (ltb at (length s)) refl e
  where
    never : {A : Type 0} (n : ℕ) → item_record j (drop at s) ≡ meaning.no n → placed_step s (item_record j (drop at s)) ≡ Ok (Some r) → A
    never n q f =
        let w : Err (question n) ≡ Ok (Some r) = rw q at f in
        absurd (let z : ◌≡◌ {A = ℕ} 0 1 = cc in omega arith)

    name : at < length s → j < item_count → (from n : ℕ) → from + n ≤ length s → meaning.read_text (drop at s) ≡ meaning.took (take n (drop from s)) (drop (from + n) s)
        → (b : Bool) → leb (length (take n (drop from s))) name_bytes ≡ b → placed_step s (item_record j (drop at s)) ≡ Ok (Some r) → Here s at j r
    name h l from n k g false q f = never 15 (item-long j (drop at s) l (take n (drop from s)) (drop (from + n) s) g (leb-false (length (take n (drop from s))) name_bytes q)) f
    name h l from n k g true q f =
        let x = item-read j (drop at s) l (take n (drop from s)) (drop (from + n) s) g (leb-true (length (take n (drop from s))) name_bytes q) in
        let p : step_at s at ≡ Ok (Some r) = rw (lt-ltb at (length s) h) (ap (placed_step s) g ∙ sym (ap (placed_step s) x) ∙ f) in
        let t = step-taken s at r p in
        let i : r.value.at + r.value.len ≤ length s = omega (arith, t.ends, t.within) in
        let w : meaning.took (take n (drop from s)) (drop (from + n) s) ≡ meaning.took (take r.value.len (drop r.value.at s)) (drop r.next.at s) = sym g ∙ t.reads in
        let v : take n (drop from s) ≡ take r.value.len (drop r.value.at s) = cc in
        record { step = p; few = l; short = omega (arith, leb-true (length (take n (drop from s))) name_bytes q, ap length v, part_length s r.value.at r.value.len i); inside = i }

    text : at < length s → j < item_count → TextAt s at → placed_step s (item_record j (drop at s)) ≡ Ok (Some r) → Here s at j r
    text h l (stands from n o k g) f = name h l from n k g (leb (length (take n (drop from s))) name_bytes) refl f
    text h l (malformed g) f = never 13 (item-malformed j (drop at s) l g) f

    count : at < length s → (b : Bool) → ltb j item_count ≡ b → placed_step s (item_record j (drop at s)) ≡ Ok (Some r) → Here s at j r
    count h false q f = never 14 (item-beyond j (drop at s) (ltb-false j item_count q)) f
    count h true q f = text h (ltb-true j item_count q) (text_at_lem s at) f

    go : (b : Bool) → ltb at (length s) ≡ b → cond b (placed_step s (item_record j (drop at s))) (Ok None) ≡ Ok (Some r) → Here s at j r
    go true q f = count (ltb-true at (length s) q) (ltb j item_count) refl f
    go false q f = absurd (let z : ◌≡◌ {A = ℕ} 0 1 = cc in omega arith)

-- ---- noting

-- the first n names stand where places hold, and those that are left from a place on
pub record Standing (items : Text) (places : List ℕ) (at n : ℕ) : Type 0 where
  pub left : (names : List Text) → read_items items ≡ accepted names → ItemsLeft items at n (drop n names)
  pub is : (names : List Text) → read_items items ≡ accepted names → (j : ℕ) → j < n → get_or names j [] ≡ part_at items (get_or places (2 * j) 0) (get_or places (2 * j + 1) 0)
  pub within : (j : ℕ) → j < n → get_or places (2 * j) 0 + get_or places (2 * j + 1) 0 ≤ length items
  pub short : (j : ℕ) → j < n → get_or places (2 * j + 1) 0 ≤ name_bytes

pub standing-none : (items : Text) (places : List ℕ) (at : ℕ) → at ≡ 0 → Standing items places at 0
standing-none items places at e =
    rw e
    (record {
      left = λ names a. items_left items names a;
      is = λ names a j h. absurd (omega arith);
      within = λ j h. absurd (omega arith);
      short = λ j h. absurd (omega arith);
    })

-- where the first n names stand was written, and then those from a place on follow
pub record Written (items : Text) (first places : List ℕ) (at n : ℕ) : Type 0 where
  pub done : List ℕ
  pub puts : places ≡ splice first 0 done
  pub long : length done ≡ 2 * n
  pub rest : (m : ℕ) → places_from items (n + m) 0 ≡ done ++ places_from items m at

pub written_none : (items : Text) (places : List ℕ) (at : ℕ) → at ≡ 0 → Written items places places at 0
written_none items places at e = record { done = []; puts = sym (splice-none places 0); long = refl; rest = λ m. rw (e, zero-add m) }

written_all : (items : Text) (first places : List ℕ) (at n : ℕ) → Written items first places at n → (k : ℕ) → k ≡ n → places ≡ splice first 0 (places_from items k 0)
written_all items first places at n w k e =
    let z : n + 0 ≡ k = omega arith in
    w.puts ∙ ap (splice first 0) (sym (append-nil w.done) ∙ sym (w.rest 0) ∙ ap (λ (i : ℕ). places_from items i 0) z)

-- two numbers are noted for name n
module _ (places : List ℕ) (n start len : ℕ) (room : 2 * n + 1 < length places) where
  abbrev after : List ℕ
  after = set (set places (2 * n) start) (2 * n + 1) len

  start-here : get_or after (2 * n) 0 ≡ start
  start-here = get_or-set_other (set places (2 * n) start) (2 * n + 1) (2 * n) len 0 (λ e. omega arith) ∙ get_or-set_same places (2 * n) start 0 (omega arith)

  len-here : get_or after (2 * n + 1) 0 ≡ len
  len-here = get_or-set_same (set places (2 * n) start) (2 * n + 1) len 0 (rw (length-set places (2 * n) start) room)

  else_same : (k : ℕ) → k < 2 * n → get_or after k 0 ≡ get_or places k 0
  else_same k h = get_or-set_other (set places (2 * n) start) (2 * n + 1) k len 0 (λ e. omega arith) ∙ get_or-set_other places (2 * n) k start 0 (λ e. omega arith)

pub second-room : (places : List ℕ) (n start : ℕ) → 2 * n + 2 ≤ length places → 2 * n + 1 < length (set places (2 * n) start)
second-room places n start l = omega (arith, length-set places (2 * n) start)

module _ (items : Text) (at n : ℕ) (w : Result (Option (Record Stretch)) Refusal) (ew : w ≡ item_at n items at) (m : Result (Option (Record Stretch)) Refused) (em : m ≡ numbered w n) where
  module _ (o : Option (Record Stretch)) (eo : m ≡ Ok o) (r : Record Stretch) (e : o ≡ Some r) where
    x : Here items at n r
    x = item-here items at n r (sym ew ∙ numbered-ok w n (Some r) (sym em ∙ eo ∙ ap (λ (y : Option (Record Stretch)). Ok y) e))

    -- the place of a name and its size are within the limits
    pub name-start : length items ≤ item_list_bytes → r.value.at ≤ item_list_bytes
    name-start h = omega (arith, x.inside)

    pub name-size : r.value.len ≤ item_list_bytes
    name-size = omega (arith, x.short)

    module _ (places : List ℕ) (s : Standing items places at n) (first : List ℕ) (same : length places ≡ length first) (long : places_room ≤ length first) where
      -- there is room for it
      pub places-room : 2 * n + 2 ≤ length places
      places-room = omega (arith, same, x.few)

      pub written-more : Written items first places at n → (new : List ℕ) → new ≡ set (set places (2 * n) r.value.at) (2 * n + 1) r.value.len → Written items first new r.next.at (n + 1)
      written-more d new q =
          let one : set places (2 * n) r.value.at ≡ splice places (2 * n) (r.value.at ∷ []) = splice-byte places (2 * n) r.value.at (omega (arith, places-room)) in
          let two : set (set places (2 * n) r.value.at) (2 * n + 1) r.value.len ≡ splice (set places (2 * n) r.value.at) (2 * n + 1) (r.value.len ∷ []) = splice-byte (set places (2 * n) r.value.at) (2 * n + 1) r.value.len (second-room places n r.value.at places-room) in
          let both : splice (splice places (2 * n) (r.value.at ∷ [])) (2 * n + 1) (r.value.len ∷ []) ≡ splice places (2 * n) (r.value.at ∷ r.value.len ∷ []) = splice-next places (2 * n) (r.value.at ∷ []) (r.value.len ∷ []) (2 * n + 1) (omega (arith, places-room)) refl in
          let more : splice (splice first 0 d.done) (2 * n) (r.value.at ∷ r.value.len ∷ []) ≡ splice first 0 (d.done ++ (r.value.at ∷ r.value.len ∷ [])) = splice-next first 0 d.done (r.value.at ∷ r.value.len ∷ []) (2 * n) (omega (arith, d.long, same, places-room)) (omega (arith, d.long)) in
          record {
            done = d.done ++ (r.value.at ∷ r.value.len ∷ []);
            puts = q ∙ two ∙ ap (λ (l : List ℕ). splice l (2 * n + 1) (r.value.len ∷ [])) one ∙ both ∙ ap (λ (l : List ℕ). splice l (2 * n) (r.value.at ∷ r.value.len ∷ [])) d.puts ∙ more;
            long = omega (arith, length-append d.done (r.value.at ∷ r.value.len ∷ []), d.long);
            rest = λ m.
                let k : n + 1 + m ≡ n + suc m = omega arith in
                ap (λ (i : ℕ). places_from items i 0) k ∙ d.rest (suc m) ∙ rw x.step (sym (append_assoc d.done (r.value.at ∷ r.value.len ∷ []) (places_from items m r.next.at)));
          }

      pub standing-more : (new : List ℕ) → new ≡ set (set places (2 * n) r.value.at) (2 * n + 1) r.value.len → Standing items new r.next.at (n + 1)
      standing-more new q =
          rw q
          (record {
            left = λ names a.
                let k = nexts names a in
                rw (add-one n) (subst (ItemsLeft items r.next.at (suc n)) (drop-rest names n (take r.value.len (drop r.value.at items)) k.after k.is) k.left);
            is = λ names a j h. is_at names a j (eq-or-lt_of_le (le_of j h));
            within = λ j h. within-at j (eq-or-lt_of_le (le_of j h));
            short = λ j h. short-at j (eq-or-lt_of_le (le_of j h));
          })
        where
          room : 2 * n + 1 < length places
          room = omega (arith, x.few, same)

          le_of : (j : ℕ) → j < n + 1 → j ≤ n
          le_of j h = omega arith

          nexts : (names : List Text) → read_items items ≡ accepted names → ItemNext items r.value.at r.value.len r.next.at n (drop n names)
          nexts names a = items-next items at n (drop n names) (s.left names a) r x.step

          is_at : (names : List Text) → read_items items ≡ accepted names → (j : ℕ) → (j ≡ n) ⊎ (j < n)
              → get_or names j [] ≡ part_at items (get_or (after places n r.value.at r.value.len room) (2 * j) 0) (get_or (after places n r.value.at r.value.len room) (2 * j + 1) 0)
          is_at names a j (inl q) =
              let k = nexts names a in
              rw (q, start-here places n r.value.at r.value.len room, len-here places n r.value.at r.value.len room) (drop_here names n (take r.value.len (drop r.value.at items)) k.after [] k.is).0
          is_at names a j (inr l) = rw (else_same places n r.value.at r.value.len room (2 * j) (omega arith), else_same places n r.value.at r.value.len room (2 * j + 1) (omega arith)) (s.is names a j l)

          within-at : (j : ℕ) → (j ≡ n) ⊎ (j < n) → get_or (after places n r.value.at r.value.len room) (2 * j) 0 + get_or (after places n r.value.at r.value.len room) (2 * j + 1) 0 ≤ length items
          within-at j (inl q) = rw (q, start-here places n r.value.at r.value.len room, len-here places n r.value.at r.value.len room) x.inside
          within-at j (inr l) = rw (else_same places n r.value.at r.value.len room (2 * j) (omega arith), else_same places n r.value.at r.value.len room (2 * j + 1) (omega arith)) (s.within j l)

          short-at : (j : ℕ) → (j ≡ n) ⊎ (j < n) → get_or (after places n r.value.at r.value.len room) (2 * j + 1) 0 ≤ name_bytes
          short-at j (inl q) = rw (q, len-here places n r.value.at r.value.len room) x.short
          short-at j (inr l) = rw (else_same places n r.value.at r.value.len room (2 * j + 1) (omega arith)) (s.short j l)

  -- the list is read
  module _ (places : List ℕ) (s : Standing items places at n) (first : List ℕ) (same : length places ≡ length first) (long : places_room ≤ length first) (small : length items ≤ item_list_bytes) (p : Reading item_record items at n) (d : Written items first places at n) where
    -- the names of a list that is accepted, which are so many, stand there
    noted : (k : ℕ) → k ≤ n → Passed (read_items items) k → PlacesOf items places k
    noted k l q =
        record {
          all = rw q.answer q.counted;
          few = omega (arith, q.counted, names-count items q.members q.answer);
          small = small;
          room = omega (arith, same, names-count items q.members q.answer, q.counted);
          is = λ j h. rw q.answer (s.is q.members q.answer j (omega arith));
          within = λ j h. s.within j (omega arith);
          short = λ j h. s.short j (omega arith);
        }

    answers : (r : Checked) → r ≡ checked (records item_record 0 items) → r ≡ checked (read_items items)
    answers r = items-are items r small

    -- at its end
    pub standing-end : m ≡ Ok None → PlacesRead items first places (record { refusal = 0; «record» = 0; count = n })
    standing-end e =
        let a = answers (record { refusal = 0; «record» = 0; count = n }) (items-all items at n w ew m em e p) in
        record { answer = a; written = written_all items first places at n d (n + 0) (omega arith); noted = λ z. noted n (omega arith) (items-passed items (Ok n) a n refl); size = same }

    -- or a record is refused
    pub standing-stop : (x : Refused) → m ≡ Err x → PlacesRead items first places (record { refusal = number_of x.refusal; «record» = x.«record»; count = 0 })
    standing-stop x e =
        let l = numbered-err w n x (sym em ∙ e) in
        let a = answers (record { refusal = number_of x.refusal; «record» = x.«record»; count = 0 }) (items-stop items at n w ew m em x e p) in
        let h = number_of-positive x.refusal in
        record { answer = a; written = written_all items first places at n d (0 + x.«record») (omega (arith, l.number)); noted = λ z. absurd (omega arith); size = same }

-- it is too long
pub standing-long : (items : Text) (places : List ℕ) → item_list_bytes < length items → PlacesRead items places places (record { refusal = 12; «record» = 0; count = 0 })
standing-long items places h = record { answer = items-too-long items h; written = sym (splice-none places 0); noted = λ z. absurd (omega arith); size = refl }
