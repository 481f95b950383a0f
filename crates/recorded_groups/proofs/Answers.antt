-- A whole answer, and a whole record, from their fields. Assumes nothing.
use Prim.Native.Nat.{ℕ, ◌+◌, ◌-◌, ◌≤◌}
use native.Mathlib.Omega.{arith}
use mathlib.Core.Path.{◌≡◌, refl, sym, ap, ◌∙◌}
use mathlib.Core.Bool.{Bool, true, false, false≢true}
use mathlib.Core.Logic.{◌↔◌}
use mathlib.Core.List.{List, [], ◌∷◌, ◌++◌, append-nil}
use mathlib.Core.Option.{some}
use borrow.Author.Tests.{eqb-true, eq-eqb}
use lib.Dec.{eqb}
use lib.ListN.{length, get_or, take, drop, length-drop}
use Rattle.meaning.specs.Bytes.{Text}
use Rattle.meaning.specs.Spec.{Answer, accepted, refused, Spec}
use Rattle.meaning.specs.Number.{record_bytes}
use Rattle.meaning.specs.Rows.{row_list_of}
use Rattle.meaning.specs.Lists.{read_specs, read_items}
use Rattle.meaning.specs.Listing.{forward_rows, reverse_rows}
use Rattle.meaning.specs.Buffers.{Outputs}
use Rattle.meaning.specs.Entries.{◌and_then◌, match_lhs, match_rhs}
use Rattle.text.proofs.Rests.{rest-cons, rest_end}
use Rattle.prefixes.specs.Group.{group_texts, group_prefixes}
use Rattle.std.specs.Prelude as std
use Rattle.std.specs.Option.{option_eq}
use Rattle.recorded.specs.Record.{sized}
use Rattle.recorded.specs.Field.{Stands, TextFound}
use Rattle.recorded.proofs.Fields.{append_left, begins-own, sized-once}
use Rattle.recorded.proofs.Texts.{text_at_lem}
use Rattle.recorded_groups.specs.GroupRecord.{answer_texts, IsGroupAnswer, IsGroupRecord}
use Rattle.recorded_groups.specs.GroupField.{AnswerStands, AnswerFound, BackThere}

-- a field, and what follows it to the end
then : (told : Text) (at : ℕ) (a rest : Text) (n : ℕ) → Stands told at a n → drop n told ≡ rest → drop at told ≡ a ++ rest
then told at a rest n s e = s.is ∙ ap (λ (x : Text). a ++ x) e

-- ---- the answer

-- a listing ends within the record
module _ (told : Text) (at op : ℕ) (specs items : Text) (r : std.Option ℕ) (n : ℕ) where
  pub lhs-within : AnswerFound told at (match_lhs op specs items) r → r ≡ std.Some n → n ≤ length told
  lhs-within f e = let s : AnswerStands told at (match_lhs op specs items) n = rw e at f in s.stands.within

  pub rhs-within : AnswerFound told at (match_rhs op specs items) r → r ≡ std.Some n → n ≤ length told
  rhs-within f e = let s : AnswerStands told at (match_rhs op specs items) n = rw e at f in s.stands.within

-- an answer that is one text tells it
same_text : (b c : Text) → ◌≡◌ {A = Answer Outputs} (accepted (some b ∷ [])) (accepted (some c ∷ [])) → b ≡ c
same_text b c e = cc

same_answer : {a b c x y z : Text} → a ≡ x → b ≡ y → c ≡ z → answer_texts a b c ≡ answer_texts x y z
same_answer e f g = rw (e, f, g)

-- both lists were accepted
record BothRead (f : List Spec → List Text → Text) (a : Answer (List Spec)) (b : Answer (List Text)) (t : Text) : Type 0 where
  group : List Spec
  names : List Text
  reads-first : a ≡ accepted group
  reads-second : b ≡ accepted names
  is : t ≡ f group names

both_read : (f : List Spec → List Text → Text) (a : Answer (List Spec)) (b : Answer (List Text)) (t : Text) → (a and_then λ group. b and_then λ names. accepted (some (f group names) ∷ [])) ≡ accepted (some t ∷ []) → BothRead f a b t
both_read f (refused n r) b t e = absurd (let z : ◌≡◌ {A = ℕ} 0 1 = cc in omega arith)
both_read f (accepted group) (refused n r) t e = absurd (let z : ◌≡◌ {A = ℕ} 0 1 = cc in omega arith)
both_read f (accepted group) (accepted names) t e = record { group = group; names = names; reads-first = refl; reads-second = refl; is = sym (same_text (f group names) t e) }

module _ (op : ℕ) (specs items : Text) where
  forward-read : (t : Text) → match_lhs op specs items ≡ accepted (some t ∷ []) → BothRead (λ group names. row_list_of (forward_rows group names)) (read_specs op specs) (read_items items) t
  unfolding match_lhs
  forward-read t e = both_read (λ group names. row_list_of (forward_rows group names)) (read_specs op specs) (read_items items) t e

  back_is : (group : List Spec) (names : List Text) → read_specs op specs ≡ accepted group → read_items items ≡ accepted names → match_rhs op specs items ≡ accepted (some (row_list_of (reverse_rows group names)) ∷ [])
  unfolding match_rhs
  back_is group names e f = rw (e, f)

  forward-is : (group : List Spec) (names : List Text) → read_specs op specs ≡ accepted group → read_items items ≡ accepted names → match_lhs op specs items ≡ accepted (some (row_list_of (forward_rows group names)) ∷ [])
  unfolding match_lhs
  forward-is group names e f = rw (e, f)

  prefixes-are : (group : List Spec) → read_specs op specs ≡ accepted group → group_prefixes op specs ≡ accepted (some (record_bytes (group_texts op group)) ∷ [])
  unfolding group_prefixes
  prefixes-are group e = rw e

  -- what the reverse listing and the prefix list leave
  module _ (told : Text) (at : ℕ) (r : std.Option ℕ) (fr : AnswerFound told at (match_rhs op specs items) r) where
    -- the listing is not there
    pub back-differs : r ≡ std.None → (false ≡ true) ↔ BackThere op specs items (drop at told)
    back-differs e = ((λ y. absurd (false≢true y)), (λ b. absurd (off b)))
      where
        off : BackThere op specs items (drop at told) → ⊥
        off b =
            let f : AnswerFound told at (match_rhs op specs items) std.None = rw e at fr in
            false≢true (sym (f b.back b.lists_back) ∙ rw b.is (begins-own (sized b.back) (sized b.prefixes)))

    module _ (next : ℕ) (er : r ≡ std.Some next) where
      first : AnswerStands told at (match_rhs op specs items) next
      first = rw er at fr

      -- what follows it is the prefix list
      then-prefixes : (b : BackThere op specs items (drop at told)) → drop next told ≡ sized b.prefixes
      then-prefixes b =
          let t : first.text ≡ b.back = same_text first.text b.back (sym first.is ∙ b.lists_back) in
          append_left (sized b.back) (drop next told) (sized b.prefixes) (ap (λ (x : Text). sized x ++ drop next told) (sym t) ∙ sym first.stands.is ∙ b.is)

      -- two fields, and nothing after them, or the prefix list is not there
      pub back-there : (q : std.Option ℕ) → AnswerFound told next (group_prefixes op specs) q → (b : Bool) → b ≡ option_eq eqb q (std.Some (length told)) → (b ≡ true) ↔ BackThere op specs items (drop at told)
      back-there q fq b e = go q fq e
        where
          go : (q : std.Option ℕ) → AnswerFound told next (group_prefixes op specs) q → b ≡ option_eq eqb q (std.Some (length told)) → (b ≡ true) ↔ BackThere op specs items (drop at told)
          go std.None f e = ((λ y. absurd (false≢true (sym e ∙ y))), (λ x. absurd (off x)))
            where
              off : BackThere op specs items (drop at told) → ⊥
              off x =
                  let z : drop next told ≡ sized x.prefixes ++ [] = then-prefixes x ∙ sym (append-nil (sized x.prefixes)) in
                  false≢true (sym (f x.prefixes x.lists-prefixes) ∙ rw z (begins-own (sized x.prefixes) []))
          go (std.Some end) w e = (is, tells)
            where
              is : b ≡ true → BackThere op specs items (drop at told)
              is y =
                  let none_left : drop end told ≡ [] = rest_end told end (omega (arith, eqb-true end (length told) (sym e ∙ y))) in
                  let second : drop next told ≡ sized w.text = then told next (sized w.text) [] end w.stands none_left ∙ append-nil (sized w.text) in
                  record { back = first.text; prefixes = w.text; lists_back = first.is; lists-prefixes = w.is; is = then told at (sized first.text) (sized w.text) next first.stands second }

              tells : BackThere op specs items (drop at told) → b ≡ true
              tells x =
                  let t : w.text ≡ x.prefixes = same_text w.text x.prefixes (sym w.is ∙ x.lists-prefixes) in
                  let p : sized x.prefixes ++ drop end told ≡ sized x.prefixes ++ [] = ap (λ (y : Text). sized y ++ drop end told) (sym t) ∙ sym w.stands.is ∙ then-prefixes x ∙ sym (append-nil (sized x.prefixes)) in
                  let z : drop end told ≡ [] = append_left (sized x.prefixes) (drop end told) [] p in
                  e ∙ eq-eqb end (length told) (omega (arith, ap length z, length-drop end told, w.stands.within))

  -- a field before them
  module _ (told : Text) (at : ℕ) (r : std.Option ℕ) (fr : AnswerFound told at (match_lhs op specs items) r) where
    pub answer-differs : r ≡ std.None → (false ≡ true) ↔ IsGroupAnswer op specs items (drop at told)
    answer-differs e = ((λ y. absurd (false≢true y)), (λ a. absurd (off a)))
      where
        off : IsGroupAnswer op specs items (drop at told) → ⊥
        off a =
            let f : AnswerFound told at (match_lhs op specs items) std.None = rw e at fr in
            let rows = row_list_of (forward_rows a.group a.names) in
            let back = row_list_of (reverse_rows a.group a.names) in
            let list = record_bytes (group_texts op a.group) in
            false≢true (sym (f rows (forward-is a.group a.names a.reads-specs a.reads-items)) ∙ rw a.is (begins-own (sized rows) (sized back ++ sized list)))

    pub answer-whole : (next : ℕ) → r ≡ std.Some next → (b : Bool) → ((b ≡ true) ↔ BackThere op specs items (drop next told)) → (b ≡ true) ↔ IsGroupAnswer op specs items (drop at told)
    answer-whole next er b f = (is, tells)
      where
        x : AnswerStands told at (match_lhs op specs items) next
        x = rw er at fr

        is : b ≡ true → IsGroupAnswer op specs items (drop at told)
        is y =
            let t = f.0 y in
            let l = forward-read x.text x.is in
            let back-rows : t.back ≡ row_list_of (reverse_rows l.group l.names) = same_text t.back (row_list_of (reverse_rows l.group l.names)) (sym t.lists_back ∙ back_is l.group l.names l.reads-first l.reads-second) in
            let list : t.prefixes ≡ record_bytes (group_texts op l.group) = same_text t.prefixes (record_bytes (group_texts op l.group)) (sym t.lists-prefixes ∙ prefixes-are l.group l.reads-first) in
            record {
              group = l.group;
              names = l.names;
              reads-specs = l.reads-first;
              reads-items = l.reads-second;
              is = then told at (sized x.text) (sized t.back ++ sized t.prefixes) next x.stands t.is ∙ same_answer l.is back-rows list;
            }

        tells : IsGroupAnswer op specs items (drop at told) → b ≡ true
        tells a =
            let rows = row_list_of (forward_rows a.group a.names) in
            let back = row_list_of (reverse_rows a.group a.names) in
            let list = record_bytes (group_texts op a.group) in
            let t : x.text ≡ rows = same_text x.text rows (sym x.is ∙ forward-is a.group a.names a.reads-specs a.reads-items) in
            f.1 (record {
              back = back;
              prefixes = list;
              lists_back = back_is a.group a.names a.reads-specs a.reads-items;
              lists-prefixes = prefixes-are a.group a.reads-specs;
              is = append_left (sized rows) (drop next told) (sized back ++ sized list) (ap (λ (y : Text). sized y ++ drop next told) (sym t) ∙ sym x.stands.is ∙ a.is);
            })

-- ---- the record

module _ (told : Text) where
  -- a record has an operation
  pub record-none : length told ≡ 0 → (false ≡ true) ↔ IsGroupRecord told
  record-none h = ((λ y. absurd (false≢true y)), (λ g. absurd (omega (arith, ap length g.is))))

  -- and then its lists
  lists-follow : (g : IsGroupRecord told) → drop 1 told ≡ sized g.specs ++ (sized g.items ++ g.answer)
  lists-follow g = ap (drop 1) g.is

  module _ (p : std.Option ℕ) (fp : TextFound told 1 p) where
    module _ (second : ℕ) (ep : p ≡ std.Some second) where
      abbrev specs : Text
      specs = take (second - 3) (drop 3 told)

      -- the spec list is the record's, and the rest follows it
      specs-are : (g : IsGroupRecord told) → (specs ≡ g.specs) × (drop second told ≡ sized g.items ++ g.answer)
      specs-are g = sized-once specs g.specs (drop second told) (sized g.items ++ g.answer) (sym (text_at_lem told 1 p second fp ep).stands.is ∙ lists-follow g)

      module _ (q : std.Option ℕ) (fq : TextFound told second q) where
        pub items-differ : q ≡ std.None → (false ≡ true) ↔ IsGroupRecord told
        items-differ e =
            let f : TextFound told second std.None = rw e at fq in
            ((λ y. absurd (false≢true y)), (λ g. absurd (f g.items g.answer (specs-are g).1)))

        -- the operation, both lists and the answer
        pub record-whole : (at : ℕ) → q ≡ std.Some at → (op : ℕ) (b : Bool) → 1 ≤ length told → op ≡ get_or told 0 0
            → ((b ≡ true) ↔ IsGroupAnswer op (take (second - 3) (drop 3 told)) (take (at - (second + 2)) (drop (second + 2) told)) (drop at told)) → (b ≡ true) ↔ IsGroupRecord told
        record-whole at eq op b h eo f = (is, tells)
          where
            items : Text
            items = take (at - (second + 2)) (drop (second + 2) told)

            after : drop second told ≡ sized items ++ drop at told
            after = (text_at_lem told second q at fq eq).stands.is

            is : b ≡ true → IsGroupRecord told
            is y =
                let lists : drop 1 told ≡ sized specs ++ (sized items ++ drop at told) = then told 1 (sized specs) (sized items ++ drop at told) second (text_at_lem told 1 p second fp ep).stands after in
                record {
                  op = op;
                  specs = specs;
                  items = items;
                  answer = drop at told;
                  answers = f.0 y;
                  is = rest-cons told 0 (omega arith) ∙ rw (← eo) (ap (λ (x : Text). op ∷ x) lists);
                }

            tells : IsGroupRecord told → b ≡ true
            tells g =
                let s = specs-are g in
                let i = sized-once items g.items (drop at told) g.answer (sym after ∙ s.1) in
                let o : op ≡ g.op = eo ∙ ap (λ (x : Text). get_or x 0 0) g.is in
                f.1 (rw (o, s.0, i.0, i.1) g.answers)
