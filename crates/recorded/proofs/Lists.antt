-- The prefixes of a record beside a prefix list: record by record the same texts. Assumes nothing.
use Prim.Native.Nat.{ℕ, ◌+◌, ◌-◌, ◌≤◌, ◌<◌}
use native.Mathlib.Omega.{arith}
use mathlib.Core.Path.{◌≡◌, refl, sym, ap, ◌∙◌}
use mathlib.Core.Bool.{true, false, false≢true}
use mathlib.Core.List.{List, [], ◌∷◌, ◌++◌, append_assoc, append-nil}
use borrow.Author.Tests.{le-leb}
use lib.ListN.{length, get_or, take, drop, length-append, length-drop}
use lib.Seq.{drop-drop, take_at, get_or-drop}
use Rattle.meaning.specs.Bytes.{Text, begins, each}
use Rattle.meaning.specs.Limits.{largest_number}
use Rattle.meaning.specs.Number.{number_bytes, text_bytes, record_bytes, took, no, read_number, read_bytes, read_text}
use Rattle.promises.proofs.Laws.{each_append}
use Rattle.promises.proofs.Reading.{read-text, number-long}
use Rattle.promises.proofs.Spelling.{bytes-spelled}
use Rattle.text.proofs.Rests.{rest-cons}
use Rattle.std.specs.Prelude.{Option, Some, None}
use Rattle.number.specs.declared.Number.{Number}
use Rattle.number.specs.Reading.{number_at}
use Rattle.number.proofs.Answers.{number-stands, number-none}
use Rattle.parse.proofs.Parts.{part_of}
use Rattle.recorded.specs.declared.list.Passed.{Passed}
use Rattle.recorded.specs.Record.{sized, prefixes_bytes}
use Rattle.recorded.specs.Field.{field_at, Stands, BothStand, PassedText, BothRead, PassedRecord}
use Rattle.recorded.proofs.Fields.{append_left, begins-own, field-missed, field-never, missed, field-stands, stands-field}

-- ---- one text of the list

module _ (s : Text) (at : ℕ) (list : Text) (from n : ℕ) where
  module _ (r : Option ℕ) (e : r ≡ field_at s at (sized (take (from + n - from) (drop from list)))) where
    part : r ≡ field_at s at (sized (take n (drop from list)))
    part = rw (part_of list from n) at e

    -- it was found in the record
    pub passed-text : at ≤ length s → (m : ℕ) → from ≤ length list → n ≤ length list - from → r ≡ Some m → BothStand s at list from n m (from + n)
    passed-text w m h k q = record { stands = field-stands s at (sized (take n (drop from list))) w r m part q; ends = refl; within = omega arith }

    -- it was not
    pub passed-other : r ≡ None → PassedText s at list from n None
    passed-other q g = missed s at (sized (take n (drop from list))) (sym q ∙ part)

module _ (list : Text) (at : ℕ) (q : Option Number) (eq : q ≡ number_at list at) where
  -- no number, no record
  pub passed-malformed : (s : Text) (next : ℕ) → q ≡ None → PassedRecord s next list at None
  unfolding read_text
  passed-malformed s next is text rest e =
      let f : no 13 ≡ took text rest = rw (number-none list at (sym eq ∙ is)) at e in
      absurd (let z : ◌≡◌ {A = ℕ} 0 1 = cc in omega arith)

  module _ (x : Number) (is : q ≡ Some x) where
    -- a number ends within its list
    pub number-within : x.next ≤ length list
    number-within = (number-stands list at x (sym eq ∙ is)).within

    reads : read_number (drop at list) ≡ took x.value (drop x.next list)
    reads = (number-stands list at x (sym eq ∙ is)).reads

    -- a text after its length is a record of the list
    pub passed-record : (s : Text) (next : ℕ) (r : Option Passed) → PassedText s next list x.next x.value r → PassedRecord s next list at r
    unfolding read_text read_bytes
    passed-record s next (Some p) b =
        let room : x.value ≤ length (drop x.next list) = omega (arith, length-drop x.next list, b.within, b.ends) in
        let rest : drop x.value (drop x.next list) ≡ drop p.at list = drop-drop x.value x.next list ∙ ap (λ (k : ℕ). drop k list) (sym b.ends) in
        record { text = take x.value (drop x.next list); reads = rw (reads, le-leb x.value (length (drop x.next list)) room, rest); stands = b.stands; within = b.within }
    passed-record s next None b = λ text rest e.
        let f : read_bytes x.value (drop x.next list) ≡ took text rest = rw reads at e in
        let g = bytes-spelled x.value (drop x.next list) text rest f in
        let l : x.next + x.value ≤ length list = omega (arith, ap length g.0, length-append text rest, g.1, length-drop x.next list, number-within) in
        let t : take x.value (drop x.next list) ≡ text = rw g.0 (take_at text rest x.value g.1) in
        rw t at (b l)

-- the first k texts of the list stand in the record, and the others follow in the list
pub record Passing (s : Text) (start : ℕ) (list : Text) (l : List Text) (next at k : ℕ) : Type 0 where
  pub done : List Text
  pub left : List Text
  pub all : l ≡ done ++ left
  pub rest : drop at list ≡ record_bytes left
  pub count : k ≡ length done
  pub stands : Stands s (start + 1) (each done sized) next

-- one text after another
stands-both : (s : Text) (at : ℕ) (a b : Text) (m : ℕ) → Stands s at a m → (n : ℕ) → Stands s m b n → Stands s at (a ++ b) n
stands-both s at a b m first n second = record { is = first.is ∙ ap (λ (l : Text). a ++ l) second.is ∙ sym (append_assoc a b (drop n s)); within = second.within }

each_more : (l : List Text) (t : Text) → each (l ++ (t ∷ [])) sized ≡ each l sized ++ sized t
each_more [] t = append-nil (sized t)
each_more (u ∷ l) t = ap (λ (x : Text). sized u ++ x) (each_more l t) ∙ sym (append_assoc (sized u) (each l sized) (sized t))

-- a record takes more bytes than its text
text-within : (t rest : Text) → length t < length (text_bytes t ++ rest)
unfolding text_bytes
text-within t rest = omega (arith, length-append (number_bytes (length t) ++ t) rest, length-append (number_bytes (length t)) t, number-long (length t))

-- no text is read from no bytes
none_read : {A : Type 0} (t rest : Text) → read_text [] ≡ took t rest → A
unfolding read_text read_number
none_read t rest e = absurd (let z : ◌≡◌ {A = ℕ} 0 1 = cc in omega arith)

-- the first record of a list that was read
record First (l : List Text) (t rest : Text) : Type 0 where
  others : List Text
  is : l ≡ t ∷ others
  follows : rest ≡ record_bytes others

first_read : (l : List Text) (t rest : Text) → length (record_bytes l) ≤ largest_number → read_text (record_bytes l) ≡ took t rest → First l t rest
unfolding record_bytes
first_read [] t rest h e = none_read t rest e
first_read (u ∷ us) t rest h e =
    let small : length u ≤ largest_number = omega (arith, text-within u (each us text_bytes)) in
    let w : took u (each us text_bytes) ≡ took t rest = sym (read-text u (each us text_bytes) small) ∙ e in
    let a : u ≡ t = cc in
    let b : each us text_bytes ≡ rest = cc in
    record { others = us; is = ap (λ (x : Text). x ∷ us) a; follows = sym b }

-- a list of no bytes has no records
none_left : (l : List Text) → length (record_bytes l) ≡ 0 → l ≡ []
unfolding record_bytes
none_left [] e = refl
none_left (u ∷ us) e = absurd (omega (arith, text-within u (each us text_bytes)))

module _ (s : Text) (start : ℕ) (list : Text) (l : List Text) where
  module _ (next at k : ℕ) (p : Passing s start list l next at k) where
    passing-more : (n a : ℕ) → length list ≤ largest_number → BothRead s next list at n a → Passing s start list l n a (k + 1)
    passing-more n a h b =
        let few : length (record_bytes p.left) ≤ largest_number = omega (arith, ap length p.rest, length-drop at list) in
        let m = first_read p.left b.text (drop a list) few (ap read_text (sym p.rest) ∙ b.reads) in
        let all : l ≡ (p.done ++ (b.text ∷ [])) ++ m.others = p.all ∙ ap (λ (x : List Text). p.done ++ x) m.is ∙ sym (append_assoc p.done (b.text ∷ []) m.others) in
        record {
          done = p.done ++ (b.text ∷ []);
          left = m.others;
          all = all;
          rest = m.follows;
          count = omega (arith, p.count, length-append p.done (b.text ∷ []));
          stands = rw (each_more p.done b.text) (stands-both s (start + 1) (each p.done sized) (sized b.text) next p.stands n b.stands);
        }

    passing-done : (many : ℕ) → start < length s → many ≡ get_or s start 0 → many ≤ k → k ≤ many → length list ≤ at → Some next ≡ field_at s start (prefixes_bytes l)
    unfolding prefixes_bytes
    passing-done many h em ge le end =
        let z : p.left ≡ [] = none_left p.left (omega (arith, ap length p.rest, length-drop at list)) in
        let a : l ≡ p.done = p.all ∙ ap (λ (x : List Text). p.done ++ x) z ∙ append-nil p.done in
        let c : get_or s start 0 ≡ length l = sym em ∙ (omega (arith, p.count, ap length a)) in
        stands-field s start (prefixes_bytes l) (omega arith) next (record { is = rest-cons s start h ∙ rw (c, p.stands.is, a); within = p.stands.within })

    -- where the record has them all, the others follow in it
    others-stand : (rest : Text) → drop start s ≡ prefixes_bytes l ++ rest → (get_or s start 0 ≡ length l) × (drop next s ≡ each p.left sized ++ rest)
    unfolding prefixes_bytes
    others-stand rest e =
        let zero-on : start + 0 ≡ start = omega arith in
        let c : get_or s (start + 0) 0 ≡ length l = sym (get_or-drop start s 0 0) ∙ ap (λ (x : Text). get_or x 0 0) e in
        let one_on : drop 1 (drop start s) ≡ drop (start + 1) s = drop-drop 1 start s in
        let d : drop (start + 1) s ≡ each l sized ++ rest = sym one_on ∙ ap (drop 1) e in
        let f : each l sized ≡ each p.done sized ++ each p.left sized = ap (λ (x : List Text). each x sized) p.all ∙ each_append p.done p.left sized in
        let g : each p.done sized ++ drop next s ≡ each p.done sized ++ (each p.left sized ++ rest) = sym p.stands.is ∙ d ∙ ap (λ (x : Text). x ++ rest) f ∙ append_assoc (each p.done sized) (each p.left sized) rest in
        (rw zero-on at c, append_left (each p.done sized) (drop next s) (each p.left sized ++ rest) g)

    -- the record says fewer than the list has
    pub passing-fewer : (many : ℕ) → many ≡ get_or s start 0 → many ≤ k → at < length list → None ≡ field_at s start (prefixes_bytes l)
    unfolding record_bytes
    passing-fewer many em ge end =
        field-missed s start (prefixes_bytes l) (field-never s start (prefixes_bytes l) (λ rest e. go p.left refl (others-stand rest e).0))
      where
        go : (o : List Text) → p.left ≡ o → get_or s start 0 ≡ length l → ⊥
        go [] q c = omega (arith, ap length (p.rest ∙ ap record_bytes q), length-drop at list)
        go (t ∷ o) q c = omega (arith, ap length p.all, length-append p.done p.left, ap length q, p.count)

    -- the next text of the list does not stand in the record
    passing-other : (many : ℕ) → many ≡ get_or s start 0 → k < many → length list ≤ largest_number → PassedRecord s next list at None → None ≡ field_at s start (prefixes_bytes l)
    unfolding record_bytes
    passing-other many em lt h b =
        field-missed s start (prefixes_bytes l) (field-never s start (prefixes_bytes l) (λ rest e. let x = others-stand rest e in go p.left refl rest x.0 x.1))
      where
        few : length (record_bytes p.left) ≤ largest_number
        few = omega (arith, ap length p.rest, length-drop at list)

        go : (o : List Text) → p.left ≡ o → (rest : Text) → get_or s start 0 ≡ length l → drop next s ≡ each p.left sized ++ rest → ⊥
        go [] q rest c d = omega (arith, ap length p.all, length-append p.done p.left, ap length q, p.count)
        go (t ∷ o) q rest c d =
            let few : length (record_bytes (t ∷ o)) ≤ largest_number = rw q at few in
            let small : length t ≤ largest_number = omega (arith, text-within t (each o text_bytes)) in
            let r : read_text (drop at list) ≡ took t (each o text_bytes) = ap read_text (p.rest ∙ ap record_bytes q) ∙ read-text t (each o text_bytes) small in
            let f : begins (sized t) (drop next s) ≡ false = b t (each o text_bytes) r in
            let g : drop next s ≡ sized t ++ (each o sized ++ rest) = d ∙ ap (λ (x : List Text). each x sized ++ rest) q ∙ append_assoc (sized t) (each o sized) rest in
            let y : begins (sized t) (drop next s) ≡ true = rw g (begins-own (sized t) (each o sized ++ rest)) in
            false≢true (sym f ∙ y)

-- one turn of the loop
module _ (s list : Text) (next at : ℕ) (r : Option Passed) (b : PassedRecord s next list at r) (p : Passed) (e : r ≡ Some p) where
  turn-read : BothRead s next list at p.next p.at
  turn-read = rw e at b

  pub turn-within : p.next ≤ length s
  turn-within = turn-read.stands.within

module _ (s list : Text) (next at : ℕ) (r : Option Passed) (b : PassedRecord s next list at r) (start k : ℕ) (all : (l : List Text) → list ≡ record_bytes l → Passing s start list l next at k) (h : length list ≤ largest_number) where
  pub turn-passes : (p : Passed) → r ≡ Some p → (l : List Text) → list ≡ record_bytes l → Passing s start list l p.next p.at (k + 1)
  turn-passes p e l q = passing-more s start list l next at k (all l q) p.next p.at h (turn-read s list next at r b p e)

  pub turn-differs : r ≡ None → (many : ℕ) → many ≡ get_or s start 0 → k < many → (l : List Text) → list ≡ record_bytes l → None ≡ field_at s start (prefixes_bytes l)
  turn-differs e many em lt l q = passing-other s start list l next at k (all l q) many em lt h (rw e at b)

-- there is no byte for their number
pub list-none : (s : Text) (start : ℕ) → length s ≤ start → (l : List Text) → None ≡ field_at s start (prefixes_bytes l)
unfolding prefixes_bytes
list-none s start h l = field-missed s start (prefixes_bytes l) (field-never s start (prefixes_bytes l) (λ rest e. omega (arith, ap length e, length-append (prefixes_bytes l) rest, length-drop start s)))

-- its end
pub list_done : (s : Text) (start : ℕ) (list : Text) (next at k : ℕ) → ((l : List Text) → list ≡ record_bytes l → Passing s start list l next at k)
    → (many : ℕ) → start < length s → many ≡ get_or s start 0 → many ≤ k → k ≤ many → length list ≤ at → (l : List Text) → list ≡ record_bytes l → Some next ≡ field_at s start (prefixes_bytes l)
list_done s start list next at k all many h em ge le end l q = passing-done s start list l next at k (all l q) many h em ge le end
