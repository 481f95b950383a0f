-- The tables of a group and the places of names give what the group and the names give. Assumes nothing.
use mathlib.Core.Path.{◌≡◌, refl, sym, ap, ◌∙◌}
use mathlib.Core.Bool.{Bool, true, false, cond}
use mathlib.Core.List.{List, [], ◌∷◌, ◌++◌}
use mathlib.Core.Option.{Option, none, some, map}
use Prim.Native.Nat.{ℕ, zero, suc, ◌+◌, ◌*◌, ◌≤◌, ◌<◌}
use native.Mathlib.Omega.{arith}
use lib.ListN.{length, get_or}
use Rattle.meaning.specs.Bytes.{Text}
use Rattle.meaning.specs.Limits.{spec_list_bytes, spec_bytes}
use Rattle.meaning.specs.Spec.{Spec, is_negative, starred}
use Rattle.meaning.specs.Lists.{read_items}
use Rattle.meaning.specs.Rows.{row_list_of}
use Rattle.meaning.specs.Prefix.{before_star}
use Rattle.meaning.specs.Match.{literal, pattern, after_star, form_of, form_needle, plain_needle, needle_of, object_in, object_by, object_source, forward, reverse}
use Rattle.meaning.specs.Listing.{forward_ends, reverse_ends, object_rows}
use Rattle.matcher.specs.declared.types.Matcher.{Matcher}
use Rattle.matcher.specs.Matching.{Matches}
use Rattle.matcher_table.specs.Numbers.{matcher_numbers, matcher_at, no_matcher}
use Rattle.list.specs.Places.{names_of, PlacesOf}
use Rattle.filter.specs.Filters.{name_at}
use Rattle.match_row.specs.Pairs.{matcher_spec, ends_in, item_bytes, object_bytes}
use Rattle.match_row.specs.Asking.{MatcherReady}
use Rattle.search.specs.Hits.{across, spec_at, pair_gives, spec_gives, group_gives, objects_give}
use Rattle.search.specs.Noting.{PlacesIn, TableReady}
use Rattle.search.proofs.Across.{across-same}
use Rattle.group_tables.specs.Standing.{StandsFor}
use Rattle.group_tables.specs.Reading.{TableIs}
use Rattle.match_group.specs.Listing.{each_from, items_from, bytes_of_spec, listing_bytes, table_bytes}

-- ---- one spec

none-matches : (specs : Text) → Matches specs (matcher_spec specs no_matcher) no_matcher
none-matches specs =
    record {
      src-is = refl;
      dst-is = refl;
      lhs-is = refl;
      rhs-is = refl;
      completes = tt;
      within = record { src-within = tt; dst-within = tt; lhs-within = tt; rhs-within = tt };
    }

module _ (specs : Text) (s : Spec) (m : Matcher) (positive : is_negative s.mode ≡ false) (h : Matches specs s m) where
  own-matches : Matches specs (matcher_spec specs m) m
  own-matches =
      record {
        src-is = refl;
        dst-is = refl;
        lhs-is = h.lhs-is ∙ rw (positive, ← h.src-is);
        rhs-is = h.rhs-is ∙ ap (map form_of) (sym h.dst-is);
        completes = h.completes;
        within = h.within;
      }

  own-ends : (back : Bool) (name : Text) → ends_in back (matcher_spec specs m) name ≡ ends_in back s name
  unfolding forward_ends reverse_ends forward reverse
  own-ends true name = rw (← h.src-is, ← h.dst-is)
  own-ends false name = rw (positive, ← h.src-is, ← h.dst-is)

  own-object : (i : ℕ) → object_bytes i (matcher_spec specs m) ≡ object_bytes i s
  unfolding object_bytes object_rows object_source
  own-object i = rw (positive, ← h.src-is, ← h.dst-is)

none-ends : (specs : Text) (back : Bool) (name : Text) → ends_in back (matcher_spec specs no_matcher) name ≡ none
unfolding forward_ends reverse_ends forward reverse
none-ends specs true name = refl
none-ends specs false name = refl

none-object : (specs : Text) (i : ℕ) → object_bytes i (matcher_spec specs no_matcher) ≡ []
unfolding object_bytes object_rows object_source row_list_of
none-object specs i = refl

-- a negative source is no object
negative-not : (t : Text) → object_in (needle_of true t) ≡ none
unfolding needle_of form_of plain_needle
negative-not t = go (starred t)
  where
    go : (b : Bool) → object_in (form_needle true (cond b (pattern (before_star t) (after_star t)) (literal t))) ≡ none
    go true = refl
    go false = refl

by-negative : (o : Option Text) → object_by true o ≡ none
by-negative none = refl
by-negative (some t) = negative-not t

negative-object : (s : Spec) (i : ℕ) → is_negative s.mode ≡ true → object_bytes i s ≡ []
unfolding object_bytes object_rows object_source row_list_of
negative-object s i e = rw (e, by-negative s.source)

-- ---- what stands in a table

stands-ready : (specs : Text) (s : Spec) (m : Matcher) → StandsFor specs s m → length specs ≤ spec_list_bytes → ((t : Text) → s.source ≡ some t → length t ≤ spec_bytes) → MatcherReady specs m
stands-ready specs s m st l short = go (is_negative s.mode) refl
  where
    none-some : (t : Text) → none ≡ some t → ⊥
    none-some t e = absurd (let z : ◌≡◌ {A = ℕ} 0 1 = ap size e in omega arith)
      where
        size : Option Text → ℕ
        size none = 0
        size (some t) = 1

    go : (b : Bool) → is_negative s.mode ≡ b → MatcherReady specs m
    go true e = rw (st.negative e) (record { specs-short = l; matches = none-matches specs; short = λ t q. absurd (none-some t q) })
    go false e = let h = st.positive e in record { specs-short = l; matches = own-matches specs s m e h; short = λ t q. short t (sym h.src-is ∙ q) }

-- what a name gives under it
stands-item : (specs : Text) (s : Spec) (m : Matcher) → StandsFor specs s m → (back : Bool) (gone : Text → Bool) (i j : ℕ) (name : Text) → item_bytes back gone i j name (matcher_spec specs m) ≡ cond (is_negative s.mode) [] (item_bytes back gone i j name s)
unfolding item_bytes
stands-item specs s m st back gone i j name = go (is_negative s.mode) refl
  where
    go : (b : Bool) → is_negative s.mode ≡ b → item_bytes back gone i j name (matcher_spec specs m) ≡ cond b [] (item_bytes back gone i j name s)
    go true e = rw (st.negative e, none-ends specs back name)
    go false e = rw (own-ends specs s m e (st.positive e) back name)

stands-object : (specs : Text) (s : Spec) (m : Matcher) → StandsFor specs s m → (i : ℕ) → object_bytes i (matcher_spec specs m) ≡ object_bytes i s
stands-object specs s m st i = go (is_negative s.mode) refl
  where
    go : (b : Bool) → is_negative s.mode ≡ b → object_bytes i (matcher_spec specs m) ≡ object_bytes i s
    go true e = rw (st.negative e, none-object specs i, negative-object s i e)
    go false e = own-object specs s m e (st.positive e) i

-- ---- members by their numbers

each-across : {A B : Type 0} (f : ℕ → A → List B) (d : A) (l rest : List A) (k n : ℕ) → n ≡ length rest → ((i : ℕ) → i < length rest → get_or l (k + i) d ≡ get_or rest i d) → each_from f k rest ≡ across (λ i. f i (get_or l i d)) k n
each-across f d l [] k n e h = rw e
each-across f d l (x ∷ rest) k n e h =
    let z : k + 0 ≡ k = omega arith in
    let first : get_or l k d ≡ x = ap (λ (i : ℕ). get_or l i d) (sym z) ∙ h 0 (omega arith) in
    rw (e, first)
    (ap (λ (t : List _). f k x ++ t)
    (each-across f d l rest (suc k) (length rest) refl (λ i a. let q : suc k + i ≡ k + suc i = omega arith in ap (λ (j : ℕ). get_or l j d) q ∙ h (suc i) (omega arith))))

each-numbers : {A B : Type 0} (f : ℕ → A → List B) (d : A) (l : List A) (n : ℕ) → n ≡ length l → each_from f 0 l ≡ across (λ i. f i (get_or l i d)) 0 n
each-numbers f d l n e = each-across f d l l 0 n e (λ i h. let z : 0 + i ≡ i = omega arith in rw z)

across-nothing : {B : Type 0} (i k : ℕ) → across {B = B} (λ j. []) i k ≡ []
across-nothing i zero = refl
across-nothing i (suc k) = across-nothing (suc i) k

-- ---- a group in its tables

module _ (specs : Text) (table negatives : List ℕ) (m count : ℕ) (group : List Spec) (t : TableIs specs table negatives m count group) where
  pub table-ready : matcher_numbers * m ≤ length table → TableReady specs table m
  table-ready room =
      record {
        few = t.few;
        room = room;
        ready = λ i h.
            let l : i < length group = omega (arith, t.count-is) in
            stands-ready specs (get_or group i blank) (matcher_at table i) (t.stand i l blank) t.specs-short (t.short i l blank);
      }
    where
      blank : Spec
      blank = matcher_spec specs no_matcher

  module _ (back : Bool) (gone : Text → Bool) (items : Text) (places : List ℕ) (n : ℕ) (p : PlacesOf items places n) where
    abbrev names : List Text
    names = names_of (read_items items)

    abbrev blank : Spec
    blank = matcher_spec specs no_matcher

    module _ (i : ℕ) (h : i < length group) where
      abbrev s : Spec
      s = get_or group i blank

      by_sign : (b : Bool) → across (λ j. cond b [] (item_bytes back gone i j (get_or names j []) s)) 0 n ≡ cond b [] (items_from (item_bytes back gone i) 0 names s)
      by_sign true = across-nothing 0 n
      by_sign false = sym (each-numbers (λ j name. item_bytes back gone i j name s) [] names n p.all)

      spec-bytes : spec_gives back gone specs table items places n i ≡ bytes_of_spec back gone names i s
      unfolding bytes_of_spec
      spec-bytes =
          across-same (pair_gives back gone (spec_at specs table i) items places i) (λ j. cond (is_negative s.mode) [] (item_bytes back gone i j (get_or names j []) s)) 0 n
          (λ j a b. let l : j < n = omega arith in stands-item specs s (matcher_at table i) (t.stand i h blank) back gone i j (name_at items places j) ∙ ap (λ (name : Text). cond (is_negative s.mode) [] (item_bytes back gone i j name s)) (sym (p.is j l)))
          ∙ by_sign (is_negative s.mode)

    group-bytes : group_gives back gone specs table m items places n ≡ each_from (bytes_of_spec back gone names) 0 group
    group-bytes =
        across-same (spec_gives back gone specs table items places n) (λ i. bytes_of_spec back gone names i (get_or group i blank)) 0 m (λ i a b. spec-bytes i (omega (arith, t.count-is)))
        ∙ sym (each-numbers (bytes_of_spec back gone names) blank group m t.count-is)

    objects-bytes : objects_give specs table m ≡ each_from object_bytes 0 group
    objects-bytes =
        across-same (λ i. object_bytes i (spec_at specs table i)) (λ i. object_bytes i (get_or group i blank)) 0 m (λ i a b. stands-object specs (get_or group i blank) (matcher_at table i) (t.stand i (omega (arith, t.count-is)) blank) i)
        ∙ sym (each-numbers object_bytes blank group m t.count-is)

    pub table-bytes : table_bytes back gone specs table m items places n ≡ listing_bytes back gone group (names_of (read_items items))
    table-bytes = go back group-bytes
      where
        go : (back : Bool) → group_gives back gone specs table m items places n ≡ each_from (bytes_of_spec back gone names) 0 group → table_bytes back gone specs table m items places n ≡ listing_bytes back gone group names
        go true e = e
        go false e = rw (objects-bytes, e)

pub places-in : (items : Text) (places : List ℕ) (n : ℕ) → PlacesOf items places n → PlacesIn items places n
places-in items places n p = record { few = p.few; small = p.small; room = p.room; within = p.within; short = p.short }
