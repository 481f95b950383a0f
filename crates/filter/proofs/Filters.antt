-- What a filter stops has no row: it is not the text, does not begin as the pattern does, is too short for it, or has not the size of a candidate.
use mathlib.Core.Path.{◌≡◌, refl, sym, ap, ◌∙◌}
use mathlib.Core.Bool.{Bool, true, false, cond, true≢false, false≢true}
use mathlib.Core.List.{[], ◌++◌}
use mathlib.Core.Option.{Option, none, some}
use Prim.Native.Nat.{ℕ, suc, ◌+◌, ◌-◌, ◌≤◌, ◌<◌}
use native.Mathlib.Omega.{arith}
use borrow.Author.Tests.{eq-eqb, le-leb, ltb-false, lt-ltb, le-ltb}
use lib.Dec.{ltb}
use lib.ListN.{length, take, drop, length-append, length-drop}
use lib.Seq.{take-take}
use Rattle.meaning.specs.Bytes.{Text, bytes, any, same, begins}
use Rattle.meaning.specs.Limits.{name_bytes, spec_list_bytes}
use Rattle.meaning.specs.Prefix.{candidates}
use Rattle.meaning.specs.Match.{miss, capture, pattern, Form}
use Rattle.compare.specs.Word.{number}
use Rattle.promises.proofs.Laws.{same-is}
use Rattle.compare.proofs.Sames.{begins-whole, same-other-length}
use Rattle.compare.proofs.Blocks.{begins-number}
use Rattle.parse.specs.declared.types.Side.{Side}
use Rattle.parse.specs.declared.types.Side.TheVariants as side
use Rattle.parse.specs.Places.{part_at, Within}
use Rattle.parse.proofs.Parts.{part_length}
use Rattle.refspec.specs.Instructions.{side_text}
use Rattle.matcher.specs.declared.types.Needle.{Needle}
use Rattle.matcher.specs.declared.types.Needle.TheVariants as needle
use Rattle.matcher.specs.declared.types.Target.{Target}
use Rattle.matcher.specs.declared.types.Target.TheVariants as target
use Rattle.matcher.specs.declared.types.Lead.{Lead}
use Rattle.matcher.specs.declared.types.Matcher.{Matcher}
use Rattle.std.specs.Prelude as prelude
use Rattle.matcher.specs.Matching.{MatcherWithin, StarIn, needle_meant, target_meant}
use Rattle.match_one.specs.Answers.{hit_by, needle_form, reverse_forms}
use Rattle.match_one.proofs.Caught.{between}
use Rattle.match_one.proofs.Onward.{forward-told}
use Rattle.match_one.proofs.Backward.{back-told}
use Rattle.filter.specs.declared.Filter.{Filter}
use Rattle.frames.specs.Frames.{longest_frame}
use Rattle.filter.specs.Filters.{frame_adds, looks_right, passes, FilterWithin, size_filter, alike, no_filter, whole_filter, start_filter, part_filter, needle_filter, target_filter, forward_filter, reverse_filter, StopsForward, StopsReverse}
use Rattle.filter.proofs.Looks.{number-part}

-- ---- what passes

-- a name of a size that passes, which looks right
lets-through : (f : Filter) (name : Text) → f.least ≤ length name → length name ≤ f.most → looks_right f name ≡ true → passes f name ≡ true
unfolding passes
lets-through f name l m b = rw (le-leb f.least (length name) l, le-leb (length name) f.most m, b)

-- by its size alone
lets-sized : (least most : ℕ) (name : Text) → least ≤ length name → length name ≤ most → passes (size_filter least most false) name ≡ true
unfolding looks_right
lets-sized least most name l m = lets-through (size_filter least most false) name l m refl

-- by the size of a candidate
lets-framed : (n d : ℕ) (name : Text) → frame_adds d ≡ true → d ≤ longest_frame → length name ≡ n + d → passes (size_filter n (n + longest_frame) true) name ≡ true
unfolding looks_right
lets-framed n d name a l e =
    let z : length name - n ≡ d = omega arith in
    lets-through (size_filter n (n + longest_frame) true) name (omega arith) (omega arith) (rw z a)

-- by how it begins
lets-alike : (s : Text) (at n least most : ℕ) (name : Text) → at + n ≤ length s → least ≤ length name → length name ≤ most → begins (part_at s at n) name ≡ true → passes (alike s at n least most) name ≡ true
unfolding alike looks_right
lets-alike s at n least most name w l m b = go (ltb n 8) refl
  where
    go : (t : Bool) → ltb n 8 ≡ t
        → passes (cond t (size_filter least most false) (record { least = least; most = most; worded = true; from = n - 8; word = number 0 8 (drop (at + (n - 8)) s); framed = false })) name ≡ true
    go true e = lets-sized least most name l m
    go false e =
        let h : 8 ≤ n = ltb-false n 8 e in
        let z : length (part_at s at n) ≡ n = part_length s at n w in
        let q : number 0 8 (drop (n - 8) (part_at s at n)) ≡ number 0 8 (drop (n - 8) name) = begins-number (n - 8) 8 0 (part_at s at n) name (omega arith) b in
        lets-through (record { least = least; most = most; worded = true; from = n - 8; word = number 0 8 (drop (at + (n - 8)) s); framed = false }) name l m
        (eq-eqb (number 0 8 (drop (n - 8) name)) (number 0 8 (drop (at + (n - 8)) s)) (sym q ∙ number-part s at n (n - 8) 8 0 (omega arith)))

-- so a test fails on what is stopped, if what passes the test is let through
stopped : (f : Filter) (name : Text) (b : Bool) → passes f name ≡ false → (b ≡ true → passes f name ≡ true) → b ≡ false
stopped f name false p h = refl
stopped f name true p h = absurd (true≢false (sym (h refl) ∙ p))

-- ---- the side as a whole
whole-stops : (specs : Text) (s : Side) (name : Text) → Within (length specs) s → length name ≤ name_bytes → passes (whole_filter specs s) name ≡ false → same (side_text specs s) name ≡ false
whole-stops specs side.Absent name w l p = stopped (whole_filter specs side.Absent) name (same [] name) p (λ e. lets-sized 0 name_bytes name (omega arith) l)
whole-stops specs (side.Part at n) name w l p = stopped (alike specs at n n n) name (same (part_at specs at n) name) p through
  where
    through : same (part_at specs at n) name ≡ true → passes (alike specs at n n n) name ≡ true
    through e =
        let z : length name ≡ n = ap length (sym (same-is (part_at specs at n) name e)) ∙ part_length specs at n w in
        lets-alike specs at n n n name w (omega arith) (omega arith) (begins-whole (part_at specs at n) name (z ∙ sym (part_length specs at n w)) ∙ e)
whole-stops specs side.Head name w l p = stopped (whole_filter specs side.Head) name (same (bytes "HEAD") name) p through
  where
    through : same (bytes "HEAD") name ≡ true → passes (whole_filter specs side.Head) name ≡ true
    through e = let z : length name ≡ 4 = ap length (sym (same-is (bytes "HEAD") name e)) in lets-sized 4 4 name (omega arith) (omega arith)

-- ---- the side around its star
-- there is no capture where what begins so and is long enough is let through
stopped-capture : (f : Filter) (a b name : Text) → passes f name ≡ false → (begins a name ≡ true → length a + length b ≤ length name → passes f name ≡ true) → capture a b name ≡ none
stopped-capture f a b name p h = go (capture a b name) refl
  where
    go : (o : Option Text) → capture a b name ≡ o → o ≡ none
    go none e = refl
    go (some c) e = let k = between a b name c e in absurd (true≢false (sym (h k.starts k.fits) ∙ p))

start-stops : (specs : Text) (s : Side) (star : ℕ) (name : Text) → Within (length specs) s → StarIn star s → length name ≤ name_bytes → passes (start_filter specs s star) name ≡ false
    → capture (take star (side_text specs s)) (drop (suc star) (side_text specs s)) name ≡ none
start-stops specs side.Absent star name w h l p = absurd h
start-stops specs (side.Part at n) star name w h l p = stopped-capture (start_filter specs (side.Part at n) star) (take star (part_at specs at n)) (drop (suc star) (part_at specs at n)) name p through
  where
    is : take star (part_at specs at n) ≡ part_at specs at star
    is = take-take star n (drop at specs) (omega arith)

    through : begins (take star (part_at specs at n)) name ≡ true → length (take star (part_at specs at n)) + length (drop (suc star) (part_at specs at n)) ≤ length name → passes (start_filter specs (side.Part at n) star) name ≡ true
    through e i =
        let b : begins (part_at specs at star) name ≡ true = rw is at e in
        let y : length (take star (part_at specs at n)) ≡ star = rw is (part_length specs at star (omega arith)) in
        let z : length (drop (suc star) (part_at specs at n)) ≡ n - suc star = length-drop (suc star) (part_at specs at n) ∙ ap (λ (k : ℕ). k - suc star) (part_length specs at n w) in
        lets-alike specs at star (n - 1) name_bytes name (omega arith) (omega arith) l b
start-stops specs side.Head star name w h l p = absurd h

-- ---- the candidates of a side
none-framed : (name t : Text) → ((d : ℕ) → frame_adds d ≡ true → d ≤ longest_frame → length name ≡ length t + d → ⊥) → any (same name) (candidates t) ≡ false
unfolding frame_adds
none-framed name t out =
    rw (
      off [] [] refl (omega arith),
      off (bytes "refs/") [] refl (omega arith),
      off (bytes "refs/tags/") [] refl (omega arith),
      off (bytes "refs/heads/") [] refl (omega arith),
      off (bytes "refs/remotes/") [] refl (omega arith),
      off (bytes "refs/remotes/") (bytes "/HEAD") refl (omega arith),
    )
  where
    off : (a b : Text) → frame_adds (length a + length b) ≡ true → length a + length b ≤ longest_frame → same name (a ++ (t ++ b)) ≡ false
    off a b f h =
        let z : length (a ++ (t ++ b)) ≡ length a + (length t + length b) = simp length-append in
        same-other-length name (a ++ (t ++ b)) (λ e. out (length a + length b) f h (omega (arith, e, z)))

part-stops : (specs : Text) (s : Side) (name : Text) → Within (length specs) s → length name ≤ name_bytes → passes (part_filter s) name ≡ false → any (same name) (candidates (side_text specs s)) ≡ false
part-stops specs side.Absent name w l p = absurd (true≢false (sym (lets-sized 0 name_bytes name (omega arith) l) ∙ p))
part-stops specs (side.Part at n) name w l p =
    none-framed name (part_at specs at n) (λ d f h e. true≢false (sym (lets-framed n d name f h (rw (part_length specs at n w) at e)) ∙ p))
part-stops specs side.Head name w l p = none-framed name (bytes "HEAD") (λ d f h e. true≢false (sym (lets-framed 4 d name f h e) ∙ p))

-- ---- the eight bytes stand in what is long enough
sized-within : (least most : ℕ) (framed : Bool) → FilterWithin (size_filter least most framed)
sized-within least most framed e = absurd (false≢true e)

alike-within : (s : Text) (at n least most : ℕ) → n ≤ least → FilterWithin (alike s at n least most)
unfolding alike
alike-within s at n least most h = go (ltb n 8) refl
  where
    go : (t : Bool) → ltb n 8 ≡ t
        → FilterWithin (cond t (size_filter least most false) (record { least = least; most = most; worded = true; from = n - 8; word = number 0 8 (drop (at + (n - 8)) s); framed = false }))
    go true e i = absurd (false≢true i)
    go false e i = let l : 8 ≤ n = ltb-false n 8 e in omega arith

whole-within : (specs : Text) (s : Side) → FilterWithin (whole_filter specs s)
whole-within specs side.Absent = sized-within 0 name_bytes false
whole-within specs (side.Part at n) = alike-within specs at n n n (omega arith)
whole-within specs side.Head = sized-within 4 4 false

start-within : (specs : Text) (s : Side) (star : ℕ) → StarIn star s → FilterWithin (start_filter specs s star)
start-within specs side.Absent star i = absurd i
start-within specs (side.Part at n) star i = alike-within specs at star (n - 1) name_bytes (omega arith)
start-within specs side.Head star i = absurd i

part-filter-within : (s : Side) → FilterWithin (part_filter s)
part-filter-within side.Absent = sized-within 0 name_bytes false
part-filter-within (side.Part at n) = sized-within n (n + longest_frame) true
part-filter-within side.Head = sized-within 4 (4 + longest_frame) true

-- ---- a spec
module _ (specs : Text) (m : Matcher) (w : MatcherWithin (length specs) m) where
  -- a filter by which nothing is hit
  forward-by : (f : Filter) → FilterWithin f → ((name : Text) → length name ≤ name_bytes → passes f name ≡ false → hit_by (needle_meant (side_text specs m.src) m.lhs) name ≡ miss) → StopsForward specs m f
  forward-by f i h = record { stops = λ name l p s k. sym (forward-told specs name m prelude.None (rw (h name l p) (record { meant = refl; within = tt })) s k); within = i }

  -- each needle is missed by what its filter stops
  pub forward-stops : StopsForward specs m (forward_filter specs m)
  unfolding forward_filter
  forward-stops = go m.lhs refl
    where
      go : (l : Needle) → m.lhs ≡ l → StopsForward specs m (needle_filter specs m.src l)
      go needle.Absent is = forward-by no_filter (sized-within 1 0 false) (λ name l p. rw is)
      go (needle.Glob star) is =
          let i : StarIn star m.src = rw is at w.lhs-within in
          forward-by (start_filter specs m.src star) (start-within specs m.src star i) (λ name l p. rw (is, start-stops specs m.src star name w.src-within i l p))
      go needle.FullName is = forward-by (whole_filter specs m.src) (whole-within specs m.src) (λ name l p. rw (is, whole-stops specs m.src name w.src-within l p))
      go needle.Object is = forward-by no_filter (sized-within 1 0 false) (λ name l p. rw is)
      go needle.PartialName is = forward-by (part_filter m.src) (part-filter-within m.src) (λ name l p. rw (is, part-stops specs m.src name w.src-within l p))

  -- a filter by which nothing comes back
  reverse-by : (f : Filter) → FilterWithin f → ((name : Text) → length name ≤ name_bytes → passes f name ≡ false → (g : Option Form) → reverse_forms g (target_meant (side_text specs m.dst) m.rhs) name ≡ none) → StopsReverse specs m f
  reverse-by f i h = record { stops = λ name l p s k. sym (back-told specs name m prelude.None (rw (h name l p (needle_form (side_text specs m.src) m.lhs)) (record { meant = refl; within = tt })) s k); within = i }

  back_none : (name : Text) (g : Option Form) → reverse_forms g none name ≡ none
  back_none name none = refl
  back_none name (some f) = refl

  back_start : (a b name : Text) (g : Option Form) → capture a b name ≡ none → reverse_forms g (some (pattern a b)) name ≡ none
  back_start a b name none e = refl
  back_start a b name (some (Form.literal t)) e = refl
  back_start a b name (some (pattern c d)) e = rw e

  back_whole : (t name : Text) (g : Option Form) → same t name ≡ false → reverse_forms g (some (Form.literal t)) name ≡ none
  back_whole t name none e = refl
  back_whole t name (some (Form.literal u)) e = rw e
  back_whole t name (some (pattern c d)) e = refl

  -- each destination is missed by what its filter stops
  pub reverse-stops : StopsReverse specs m (reverse_filter specs m)
  unfolding reverse_filter
  reverse-stops = go m.rhs refl
    where
      go : (r : Target) → m.rhs ≡ r → StopsReverse specs m (target_filter specs m.dst r)
      go target.Absent is = reverse-by no_filter (sized-within 1 0 false) (λ name l p g. rw is (back_none name g))
      go (target.Pattern star) is =
          let i : StarIn star m.dst = rw is at w.rhs-within in
          let t = side_text specs m.dst in
          reverse-by (start_filter specs m.dst star) (start-within specs m.dst star i)
          (λ name l p g. rw is (back_start (take star t) (drop (suc star) t) name g (start-stops specs m.dst star name w.dst-within i l p)))
      go (target.Literal led) is =
          reverse-by (whole_filter specs m.dst) (whole-within specs m.dst) (λ name l p g. rw is (back_whole (side_text specs m.dst) name g (whole-stops specs m.dst name w.dst-within l p)))

-- ---- the arms of a `match` on what a source looks for, and on what a destination is
module _ (specs : Text) (m : Matcher) (f : Filter) where
  pub forward-absent : m.lhs ≡ needle.Absent → f ≡ no_filter → f ≡ forward_filter specs m
  unfolding forward_filter
  forward-absent is e = rw is e

  pub forward-glob : (star : ℕ) → m.lhs ≡ needle.Glob star → f ≡ start_filter specs m.src star → f ≡ forward_filter specs m
  unfolding forward_filter
  forward-glob star is e = rw is e

  pub forward-full : m.lhs ≡ needle.FullName → f ≡ whole_filter specs m.src → f ≡ forward_filter specs m
  unfolding forward_filter
  forward-full is e = rw is e

  pub forward-object : m.lhs ≡ needle.Object → f ≡ no_filter → f ≡ forward_filter specs m
  unfolding forward_filter
  forward-object is e = rw is e

  pub forward-part : m.lhs ≡ needle.PartialName → f ≡ part_filter m.src → f ≡ forward_filter specs m
  unfolding forward_filter
  forward-part is e = rw is e

  pub reverse-absent : m.rhs ≡ target.Absent → f ≡ no_filter → f ≡ reverse_filter specs m
  unfolding reverse_filter
  reverse-absent is e = rw is e

  pub reverse-pattern : (star : ℕ) → m.rhs ≡ target.Pattern star → f ≡ start_filter specs m.dst star → f ≡ reverse_filter specs m
  unfolding reverse_filter
  reverse-pattern star is e = rw is e

  pub reverse-literal : (l : Lead) → m.rhs ≡ target.Literal l → f ≡ whole_filter specs m.dst → f ≡ reverse_filter specs m
  unfolding reverse_filter
  reverse-literal l is e = rw is e

-- ---- the arms of a `match` on a side
module _ (specs : Text) (s : Side) (f : Filter) where
  pub whole-absent : s ≡ side.Absent → f ≡ size_filter 0 name_bytes false → f ≡ whole_filter specs s
  whole-absent is e = rw is e

  pub whole_part : (at n : ℕ) → s ≡ side.Part at n → f ≡ alike specs at n n n → f ≡ whole_filter specs s
  whole_part at n is e = rw is e

  pub whole-head : s ≡ side.Head → f ≡ size_filter 4 4 false → f ≡ whole_filter specs s
  whole-head is e = rw is e

  module _ (star : ℕ) where
    pub start-absent : s ≡ side.Absent → f ≡ size_filter 0 name_bytes false → f ≡ start_filter specs s star
    start-absent is e = rw is e

    pub start-part : (at n : ℕ) → s ≡ side.Part at n → f ≡ alike specs at star (n - 1) name_bytes → f ≡ start_filter specs s star
    start-part at n is e = rw is e

    pub start-head : s ≡ side.Head → f ≡ size_filter 0 name_bytes false → f ≡ start_filter specs s star
    start-head is e = rw is e

module _ (s : Side) (f : Filter) where
  pub part-absent : s ≡ side.Absent → f ≡ size_filter 0 name_bytes false → f ≡ part_filter s
  part-absent is e = rw is e

  pub part-part : (at n : ℕ) → s ≡ side.Part at n → f ≡ size_filter n (n + longest_frame) true → f ≡ part_filter s
  part-part at n is e = rw is e

  pub part-head : s ≡ side.Head → f ≡ size_filter 4 (4 + longest_frame) true → f ≡ part_filter s
  part-head is e = rw is e

-- ---- places
pub part_small : (s : Side) (at n len : ℕ) → s ≡ side.Part at n → Within len s → len ≤ spec_list_bytes → n ≤ spec_list_bytes
part_small s at n len is w l = let h : at + n ≤ len = rw is at w in omega arith

module _ (s : Side) (at n star : ℕ) (is : s ≡ side.Part at n) (i : StarIn star s) where
  star-below : star < n
  star-below = rw is at i

  pub not-empty : 1 ≤ n
  not-empty = let b : star < n = star-below in omega arith

  pub start-room : (len : ℕ) → Within len s → at + star ≤ len
  start-room len w = let h : at + n ≤ len = rw is at w in let b : star < n = star-below in omega arith

-- ---- the last eight bytes
module _ (s : Text) (at n least most : ℕ) (f : Filter) where
  pub alike-short : n < 8 → f ≡ size_filter least most false → f ≡ alike s at n least most
  unfolding alike
  alike-short h e = rw (lt-ltb n 8 h) e

  pub alike-long : 8 ≤ n → (from word : ℕ) → from ≡ n - 8 → word ≡ number 0 8 (drop (at + from) s) → f ≡ record { least = least; most = most; worded = true; from = from; word = word; framed = false } → f ≡ alike s at n least most
  unfolding alike
  alike-long h from word a b e = rw (le-ltb n 8 h) (rw (b, a) at e)
