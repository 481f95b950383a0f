-- The ends of a name that is known to be matched, by its size, mean what the spec makes of it. Assumes nothing.
use Prim.Native.Nat.{ℕ, suc, ◌+◌, ◌-◌, ◌≤◌}
use native.Mathlib.Omega.{arith}
use mathlib.Core.Path.{◌≡◌, refl, sym, ap, ◌∙◌}
use mathlib.Core.Bool.{Bool, true, false, cond}
use mathlib.Core.List.{[]}
use Rattle.std.specs.Prelude as prelude
use mathlib.Core.Logic.{◌⊎◌, inl, inr}
use mathlib.Core.Option.{Option, none, some}
use borrow.Author.Tests.{le-ltb, ltb-false}
use lib.Dec.{ltb}
use lib.ListN.{length, take, drop}
use Rattle.meaning.specs.Bytes.{Text, or_empty, any, same}
use Rattle.meaning.specs.Spec.{Spec}
use Rattle.meaning.specs.Prefix.{candidates}
use Rattle.meaning.specs.Match.{literal, miss, whole_if, capture, caught_by}
use Rattle.meaning.specs.Listing as listing
use Rattle.meaning.specs.Listing.{forward_ends, reverse_ends}
use Rattle.parse.specs.declared.types.Side.{Side}
use Rattle.parse.specs.declared.types.Side.TheVariants as side
use Rattle.parse.specs.Places.{part_at, Within}
use Rattle.refspec.specs.Instructions.{side_text}
use Rattle.matcher.specs.declared.types.Needle.{Needle}
use Rattle.matcher.specs.declared.types.Needle.TheVariants as needle
use Rattle.matcher.specs.declared.types.Lead.{Lead}
use Rattle.matcher.specs.declared.types.Lead.TheVariants as lead
use Rattle.matcher.specs.declared.types.Target.{Target}
use Rattle.matcher.specs.declared.types.Target.TheVariants as target
use Rattle.matcher.specs.declared.types.Matcher.{Matcher}
use Rattle.matcher.specs.declared.types.RowText.{RowText}
use Rattle.matcher.specs.declared.types.RowText.TheVariants as row-text
use Rattle.matcher.specs.declared.types.Ends.{Ends}
use Rattle.matcher.specs.Matching.{ends_meant, EndsWithin, needle_meant, target_meant, StarIn, NeedleWithin, TargetWithin, MatcherWithin, Matches, object_ends}
use Rattle.match_one.specs.Answers.{row_of, spelt_ends, completed_places, filled_place, whole_places, caught_places, digits_places, object_places, hit_by, Answers, needle_form, reverse_forms, AnswersBack}
use Rattle.match_one.specs.Known.{caught_len, if_long_enough, known_caught, known_places, known_filled, known_glob_back, known_literal_back, known_back, KnownForward, KnownReverse}
use Rattle.match_one.proofs.Caught.{in_place}
use Rattle.match_one.proofs.Fills.{filled-meant, filled_within}
use Rattle.match_one.proofs.Onward.{whole-answers, caught-answers, forward-told}
use Rattle.match_one.proofs.Backward.{back-told}
use Rattle.match_one.proofs.Objects.{object-told}

-- nothing is something
none-some : {A : Type 0} (x : A) → none ≡ some x → ⊥
none-some x k = let z : ◌≡◌ {A = ℕ} 0 1 = cc in omega arith

-- ---- a name that is not too short
module _ (n size : ℕ) (e : prelude.Option Ends) where
  pub long-enough : size ≤ n + 1 → (r : prelude.Option Ends) → r ≡ e → r ≡ if_long_enough n size e
  unfolding if_long_enough
  long-enough h r q = rw (le-ltb (n + 1) size h) q

  -- the places of both stand where those of the ends do
  short-within : (len : ℕ) → (size ≤ n + 1 → EndsWithin len n e) → EndsWithin len n (if_long_enough n size e)
  unfolding if_long_enough
  short-within len h = go (ltb (n + 1) size) refl
    where
      go : (t : Bool) → ltb (n + 1) size ≡ t → EndsWithin len n (if_long_enough n size e)
      go true q = rw q tt
      go false q = rw q (h (ltb-false (n + 1) size q))

-- ---- forward
module _ (specs : Text) (src dst : Side) (rhs : Target) (v : Within (length specs) dst) (u : TargetWithin dst rhs) where
  caught-fits : (n from k : ℕ) → from + k ≤ n → EndsWithin (length specs) n (caught_places dst rhs from k)
  caught-fits n from k l = go rhs u
    where
      go : (t : Target) → TargetWithin dst t → EndsWithin (length specs) n (caught_places dst t from k)
      go target.Absent h = (tt, tt)
      go (target.Pattern star) h = (tt, filled_within (length specs) n dst star from k v h l)
      go (target.Literal l') h = tt

  whole-fits : (n : ℕ) → EndsWithin (length specs) n (whole_places dst rhs)
  whole-fits n = go rhs
    where
      go : (t : Target) → EndsWithin (length specs) n (whole_places dst t)
      go target.Absent = (tt, tt)
      go (target.Pattern star) = tt
      go (target.Literal l) = (tt, v)

  digits-fits : (n : ℕ) → Within (length specs) src → EndsWithin (length specs) n (digits_places src dst rhs)
  digits-fits n w = go rhs
    where
      go : (t : Target) → EndsWithin (length specs) n (digits_places src dst t)
      go target.Absent = (w, tt)
      go (target.Pattern star) = tt
      go (target.Literal l) = (w, v)

  -- the places stand within the list and the name
  known-fits : (n : ℕ) → Within (length specs) src → (lhs : Needle) → NeedleWithin src lhs → EndsWithin (length specs) n (known_places src lhs dst rhs n)
  known-fits n w needle.Absent h = tt
  known-fits n w (needle.Glob star) h = go src h
    where
      go : (s : Side) → StarIn star s → EndsWithin (length specs) n (known_caught s star dst rhs n)
      go side.Absent i = tt
      go (side.Part at size) i = short-within n size (caught_places dst rhs star (n + 1 - size)) (length specs) (λ l. caught-fits n star (n + 1 - size) (omega arith))
      go side.Head i = tt
  known-fits n w needle.FullName h = whole-fits n
  known-fits n w needle.Object h = digits-fits n w
  known-fits n w needle.PartialName h = whole-fits n

  -- a test that passed
  whole-known : (name : Text) (b : Bool) → (whole_if b ≡ miss → ⊥) → Answers specs name dst rhs (whole_if b) (whole_places dst rhs)
  whole-known name true hits = whole-answers specs name dst v rhs
  whole-known name false hits = absurd (hits refl)

  -- what was caught
  caught-known : (name : Text) (star : ℕ) (s : Side) → Within (length specs) s → StarIn star s → (o : Option Text) → capture (take star (side_text specs s)) (drop (suc star) (side_text specs s)) name ≡ o → (caught_by o ≡ miss → ⊥)
      → Answers specs name dst rhs (caught_by o) (known_caught s star dst rhs (length name))
  caught-known name star side.Absent w i o k hits = absurd i
  caught-known name star (side.Part at size) w i none k hits = absurd (hits refl)
  caught-known name star (side.Part at size) w i (some c) k hits =
      let p = in_place specs at size star name c w i k in
      rw (p.is, ← long-enough (length name) size (caught_places dst rhs star (length name + 1 - size)) p.long (caught_places dst rhs star (length name + 1 - size)) refl)
      (caught-answers specs name dst v rhs star (length name + 1 - size) u p.within)
  caught-known name star side.Head w i o k hits = absurd i

  known-answers : (name : Text) → Within (length specs) src → (lhs : Needle) → NeedleWithin src lhs → (hit_by (needle_meant (side_text specs src) lhs) name ≡ miss → ⊥)
      → Answers specs name dst rhs (hit_by (needle_meant (side_text specs src) lhs) name) (known_places src lhs dst rhs (length name))
  known-answers name w needle.Absent h hits = absurd (hits refl)
  known-answers name w (needle.Glob star) h hits = caught-known name star src w h (capture (take star (side_text specs src)) (drop (suc star) (side_text specs src)) name) refl hits
  known-answers name w needle.FullName h hits = whole-known name (same (side_text specs src) name) hits
  known-answers name w needle.Object h hits = absurd (hits refl)
  known-answers name w needle.PartialName h hits = whole-known name (any (same name) (candidates (side_text specs src))) hits

module _ (specs : Text) (m : Matcher) (w : MatcherWithin (length specs) m) where
  -- what is missed has no row
  missed : (name : Text) (s : Spec) → Matches specs s m → hit_by (needle_meant (side_text specs m.src) m.lhs) name ≡ miss → none ≡ forward_ends s name
  missed name s h e = forward-told specs name m prelude.None (rw e (record { meant = refl; within = tt })) s h

  known-meant : (name : Text) (s : Spec) → Matches specs s m → (e : listing.Ends) → forward_ends s name ≡ some e → ends_meant specs name (known_places m.src m.lhs m.dst m.rhs (length name)) ≡ forward_ends s name
  known-meant name s h e k =
      forward-told specs name m (known_places m.src m.lhs m.dst m.rhs (length name))
      (known-answers specs m.src m.dst m.rhs w.dst-within w.rhs-within name w.src-within m.lhs w.lhs-within (λ z. none-some e (missed name s h z ∙ k)))
      s
      h

  -- the ends of an object source have nothing of a name
  digits-any : (name : Text) (src dst : Side) (rhs : Target) → ends_meant specs name (digits_places src dst rhs) ≡ ends_meant specs [] (digits_places src dst rhs)
  digits-any name src dst target.Absent = refl
  digits-any name src dst (target.Pattern star) = refl
  digits-any name src dst (target.Literal l) = refl

  known-object : (n : ℕ) (name : Text) (s : Spec) → Matches specs s m → (e : listing.Ends) → object_ends s ≡ some e → ends_meant specs name (known_places m.src m.lhs m.dst m.rhs n) ≡ object_ends s
  known-object n name s h e k = go m.lhs refl
    where
      told : ends_meant specs [] (object_places m.src m.lhs m.dst m.rhs) ≡ object_ends s
      told = object-told specs m (object_places m.src m.lhs m.dst m.rhs) refl s h

      go : (lhs : Needle) → m.lhs ≡ lhs → ends_meant specs name (known_places m.src lhs m.dst m.rhs n) ≡ object_ends s
      go needle.Absent q = absurd (none-some e (rw q at told ∙ k))
      go (needle.Glob star) q = absurd (none-some e (rw q at told ∙ k))
      go needle.FullName q = absurd (none-some e (rw q at told ∙ k))
      go needle.Object q = digits-any name m.src m.dst m.rhs ∙ rw q at told
      go needle.PartialName q = absurd (none-some e (rw q at told ∙ k))

  pub known-forward : (n : ℕ) (r : prelude.Option Ends) → r ≡ known_places m.src m.lhs m.dst m.rhs n → KnownForward specs m n r
  known-forward n r er =
      rw er
      (record {
        meant = λ name l s h e k. rw (← l) (known-meant name s h e k);
        object = known-object n;
        within = known-fits specs m.src m.dst m.rhs w.dst-within w.rhs-within n w.src-within m.lhs w.lhs-within;
      })

-- ---- in reverse
module _ (specs : Text) (src : Side) (w : Within (length specs) src) where
  literal-back-fits : (n : ℕ) (rhs : Target) → EndsWithin (length specs) n (known_literal_back src rhs)
  literal-back-fits n target.Absent = tt
  literal-back-fits n (target.Pattern second) = tt
  literal-back-fits n (target.Literal l) = (w, tt)

  known-back-fits : (n : ℕ) (lhs : Needle) → NeedleWithin src lhs → (dst : Side) (rhs : Target) → TargetWithin dst rhs → EndsWithin (length specs) n (known_back src lhs dst rhs n)
  known-back-fits n needle.Absent h dst rhs u = tt
  known-back-fits n (needle.Glob star) h dst target.Absent u = tt
  known-back-fits n (needle.Glob star) h dst (target.Literal l) u = tt
  known-back-fits n (needle.Glob star) h dst (target.Pattern second) u = go dst u
    where
      go : (d : Side) → StarIn second d → EndsWithin (length specs) n (known_filled src star d second n)
      go side.Absent i = tt
      go (side.Part at size) i =
          short-within n size (row_of (filled_place src star second (n + 1 - size)) row-text.Name) (length specs) (λ l. (filled_within (length specs) n src star second (n + 1 - size) w h (omega arith), tt))
      go side.Head i = tt
  known-back-fits n needle.FullName h dst rhs u = literal-back-fits n rhs
  known-back-fits n needle.Object h dst rhs u = literal-back-fits n rhs
  known-back-fits n needle.PartialName h dst rhs u = literal-back-fits n rhs

  -- a literal destination that is the name
  literal-known-back : (name : Text) (dst : Side) (rhs : Target) → (reverse_forms (some (literal (side_text specs src))) (target_meant (side_text specs dst) rhs) name ≡ none → ⊥)
      → AnswersBack specs name (reverse_forms (some (literal (side_text specs src))) (target_meant (side_text specs dst) rhs) name) (known_literal_back src rhs)
  literal-known-back name dst target.Absent some-row = absurd (some-row refl)
  literal-known-back name dst (target.Pattern second) some-row = absurd (some-row refl)
  literal-known-back name dst (target.Literal l) some-row = go (same (side_text specs dst) name) refl
    where
      go : (b : Bool) → same (side_text specs dst) name ≡ b
          → AnswersBack specs name (reverse_forms (some (literal (side_text specs src))) (some (literal (side_text specs dst))) name) (row_of (row-text.Led lead.AsIs src) row-text.Name)
      go true e = record { meant = rw e; within = (w, tt) }
      go false e = absurd (some-row (rw e))

  -- what was caught
  filled-known-back : (name : Text) (star : ℕ) → StarIn star src → (second : ℕ) (dst : Side) → Within (length specs) dst → StarIn second dst
      → (o : Option Text) → capture (take second (side_text specs dst)) (drop (suc second) (side_text specs dst)) name ≡ o → (o ≡ none → ⊥)
      → AnswersBack specs name (reverse_forms (needle_form (side_text specs src) (needle.Glob star)) (target_meant (side_text specs dst) (target.Pattern second)) name) (known_filled src star dst second (length name))
  filled-known-back name star h second side.Absent v i o k some-row = absurd i
  filled-known-back name star h second (side.Part at size) v i none k some-row = absurd (some-row refl)
  filled-known-back name star h second (side.Part at size) v i (some c) k some-row =
      let p = in_place specs at size second name c v i k in
      let row = row_of (filled_place src star second (length name + 1 - size)) row-text.Name in
      let z : capture (take second (part_at specs at size)) (drop (suc second) (part_at specs at size)) name ≡ some (part_at name second (length name + 1 - size)) = k ∙ ap some p.is in
      rw (← long-enough (length name) size row p.long row refl)
      (record {
        meant = rw z (ap (λ (t : Option Text). some (record { source = or_empty t; destination = some name })) (filled-meant specs name src star second (length name + 1 - size) w h));
        within = (filled_within (length specs) (length name) src star second (length name + 1 - size) w h p.within, tt);
      })
  filled-known-back name star h second side.Head v i o k some-row = absurd i

  known-answers-back : (name : Text) (lhs : Needle) → NeedleWithin src lhs → (dst : Side) → Within (length specs) dst → (rhs : Target) → TargetWithin dst rhs
      → (reverse_forms (needle_form (side_text specs src) lhs) (target_meant (side_text specs dst) rhs) name ≡ none → ⊥)
      → AnswersBack specs name (reverse_forms (needle_form (side_text specs src) lhs) (target_meant (side_text specs dst) rhs) name) (known_back src lhs dst rhs (length name))
  known-answers-back name needle.Absent h dst v rhs u some-row = absurd (some-row refl)
  known-answers-back name (needle.Glob star) h dst v target.Absent u some-row = absurd (some-row refl)
  known-answers-back name (needle.Glob star) h dst v (target.Literal l) u some-row = absurd (some-row refl)
  known-answers-back name (needle.Glob star) h dst v (target.Pattern second) u some-row =
      filled-known-back name star h second dst v u (capture (take second (side_text specs dst)) (drop (suc second) (side_text specs dst)) name) refl (λ e. some-row (rw e))
  known-answers-back name needle.FullName h dst v rhs u some-row = literal-known-back name dst rhs some-row
  known-answers-back name needle.Object h dst v rhs u some-row = literal-known-back name dst rhs some-row
  known-answers-back name needle.PartialName h dst v rhs u some-row = literal-known-back name dst rhs some-row

module _ (specs : Text) (m : Matcher) (w : MatcherWithin (length specs) m) where
  known-meant-back : (name : Text) (s : Spec) → Matches specs s m → (e : listing.Ends) → reverse_ends s name ≡ some e → ends_meant specs name (known_back m.src m.lhs m.dst m.rhs (length name)) ≡ reverse_ends s name
  known-meant-back name s h e k =
      back-told specs name m (known_back m.src m.lhs m.dst m.rhs (length name))
      (known-answers-back specs m.src w.src-within name m.lhs w.lhs-within m.dst w.dst-within m.rhs w.rhs-within
      (λ z. none-some e (back-told specs name m prelude.None (rw z (record { meant = refl; within = tt })) s h ∙ k)))
      s
      h

  pub known-reverse : (n : ℕ) (r : prelude.Option Ends) → r ≡ known_back m.src m.lhs m.dst m.rhs n → KnownReverse specs m n r
  known-reverse n r er =
      rw er
      (record {
        meant = λ name l s h e k. rw (← l) (known-meant-back name s h e k);
        within = known-back-fits specs m.src w.src-within n m.lhs w.lhs-within m.dst m.rhs w.rhs-within;
      })

-- ---- the arms of a `match`

-- what a side is known to catch decides
none-decides : (b : Bool) (k : ℕ) (e : prelude.Option Ends) → cond b prelude.None (prelude.Some k) ≡ prelude.None → prelude.None ≡ cond b prelude.None e
none-decides true k e h = refl
none-decides false k e h = absurd (let z : ◌≡◌ {A = ℕ} 0 1 = cc in omega arith)

some-decides : (b : Bool) (k len : ℕ) (f : ℕ → prelude.Option Ends) → cond b prelude.None (prelude.Some k) ≡ prelude.Some len → f len ≡ cond b prelude.None (f k)
some-decides true k len f h = absurd (let z : ◌≡◌ {A = ℕ} 0 1 = cc in omega arith)
some-decides false k len f h = let e : k ≡ len = cc in rw e

-- nothing is too little
module _ (star : ℕ) (dst : Side) (rhs : Target) (n : ℕ) where
  caught-none : (src : Side) → caught_len src n ≡ prelude.None → prelude.None ≡ known_caught src star dst rhs n
  unfolding if_long_enough
  caught-none side.Absent h = refl
  caught-none (side.Part at size) h = none-decides (ltb (n + 1) size) (n + 1 - size) (caught_places dst rhs star (n + 1 - size)) h
  caught-none side.Head h = refl

  caught-some : (src : Side) (len : ℕ) → caught_len src n ≡ prelude.Some len → caught_places dst rhs star len ≡ known_caught src star dst rhs n
  unfolding if_long_enough
  caught-some side.Absent len h = absurd (let z : ◌≡◌ {A = ℕ} 0 1 = cc in omega arith)
  caught-some (side.Part at size) len h = some-decides (ltb (n + 1) size) (n + 1 - size) len (λ k. caught_places dst rhs star k) h
  caught-some side.Head len h = absurd (let z : ◌≡◌ {A = ℕ} 0 1 = cc in omega arith)

module _ (src : Side) (star second n : ℕ) where
  filled-none : (dst : Side) → caught_len dst n ≡ prelude.None → prelude.None ≡ known_filled src star dst second n
  unfolding if_long_enough
  filled-none side.Absent h = refl
  filled-none (side.Part at size) h = none-decides (ltb (n + 1) size) (n + 1 - size) (row_of (filled_place src star second (n + 1 - size)) row-text.Name) h
  filled-none side.Head h = refl

  filled-some : (dst : Side) (len : ℕ) → caught_len dst n ≡ prelude.Some len → row_of (filled_place src star second len) row-text.Name ≡ known_filled src star dst second n
  unfolding if_long_enough
  filled-some side.Absent len h = absurd (let z : ◌≡◌ {A = ℕ} 0 1 = cc in omega arith)
  filled-some (side.Part at size) len h = some-decides (ltb (n + 1) size) (n + 1 - size) len (λ k. row_of (filled_place src star second k) row-text.Name) h
  filled-some side.Head len h = absurd (let z : ◌≡◌ {A = ℕ} 0 1 = cc in omega arith)

module _ (src : Side) (lhs : Needle) (dst : Side) (rhs : Target) (n : ℕ) where
  pub known-absent : lhs ≡ needle.Absent → prelude.None ≡ known_places src lhs dst rhs n
  known-absent is = rw is

  pub back-absent : lhs ≡ needle.Absent → prelude.None ≡ known_back src lhs dst rhs n
  back-absent is = rw is

  module _ (star : ℕ) (is : lhs ≡ needle.Glob star) (x : prelude.Option ℕ) where
    pub glob-short : x ≡ caught_len src n → x ≡ prelude.None → (r : prelude.Option Ends) → r ≡ prelude.None → r ≡ known_places src lhs dst rhs n
    glob-short e h r er = rw is (er ∙ caught-none star dst rhs n src (sym e ∙ h))

    pub glob-long : x ≡ caught_len src n → (len : ℕ) → x ≡ prelude.Some len → (r : prelude.Option Ends) → r ≡ caught_places dst rhs star len → r ≡ known_places src lhs dst rhs n
    glob-long e len h r er = rw is (er ∙ caught-some star dst rhs n src len (sym e ∙ h))

    module _ (second : ℕ) (of : rhs ≡ target.Pattern second) (e : x ≡ caught_len dst n) where
      pub both-short : x ≡ prelude.None → (r : prelude.Option Ends) → r ≡ prelude.None → r ≡ known_back src lhs dst rhs n
      both-short h r er = rw (is, of) (er ∙ filled-none src star second n dst (sym e ∙ h))

      pub both-long : (len : ℕ) → x ≡ prelude.Some len → (t : RowText) → t ≡ filled_place src star second len → row_of t row-text.Name ≡ known_back src lhs dst rhs n
      both-long len h t et = rw (is, of, et) (filled-some src star second n dst len (sym e ∙ h))

  pub known-no-pattern : (star : ℕ) → lhs ≡ needle.Glob star → ((k : ℕ) → rhs ≡ target.Pattern k → ⊥) → prelude.None ≡ known_back src lhs dst rhs n
  known-no-pattern star is d = rw is (go rhs d)
    where
      go : (r : Target) → ((k : ℕ) → r ≡ target.Pattern k → ⊥) → prelude.None ≡ known_glob_back src star dst r n
      go target.Absent d = refl
      go (target.Pattern k) d = absurd (d k refl)
      go (target.Literal l) d = refl

  module _ (r : prelude.Option Ends) where
    pub known-whole : (lhs ≡ needle.FullName) ⊎ (lhs ≡ needle.PartialName) → r ≡ completed_places row-text.Name dst rhs → r ≡ known_places src lhs dst rhs n
    known-whole (inl is) e = rw is e
    known-whole (inr is) e = rw is e

    pub known-digits : lhs ≡ needle.Object → r ≡ object_places src lhs dst rhs → r ≡ known_places src lhs dst rhs n
    known-digits is e = let h : r ≡ digits_places src dst rhs = rw is at e in rw is h

  -- a literal source
  literal-known : (lhs ≡ needle.FullName) ⊎ ((lhs ≡ needle.Object) ⊎ (lhs ≡ needle.PartialName)) → known_back src lhs dst rhs n ≡ known_literal_back src rhs
  literal-known (inl e) = rw e
  literal-known (inr (inl e)) = rw e
  literal-known (inr (inr e)) = rw e

  module _ (is : (lhs ≡ needle.FullName) ⊎ ((lhs ≡ needle.Object) ⊎ (lhs ≡ needle.PartialName))) where
    pub known-no-literal : ((l : Lead) → rhs ≡ target.Literal l → ⊥) → prelude.None ≡ known_back src lhs dst rhs n
    known-no-literal d = rw (literal-known is) (go rhs d)
      where
        go : (r : Target) → ((l : Lead) → r ≡ target.Literal l → ⊥) → prelude.None ≡ known_literal_back src r
        go target.Absent d = refl
        go (target.Pattern k) d = refl
        go (target.Literal l) d = absurd (d l refl)

    pub known-literal : (l : Lead) → rhs ≡ target.Literal l → (r : Ends) → r ≡ spelt_ends src → prelude.Some r ≡ known_back src lhs dst rhs n
    known-literal l of r er = rw (literal-known is, of, er)

-- ---- the places are those of the row
module _ (specs : Text) (m : Matcher) (w : MatcherWithin (length specs) m) (n : ℕ) (r : prelude.Option Ends) where
  pub forward-known : r ≡ known_places m.src m.lhs m.dst m.rhs n → (r ≡ known_places m.src m.lhs m.dst m.rhs n) × KnownForward specs m n r
  forward-known e = (e, known-forward specs m w n r e)

  pub reverse-known : r ≡ known_back m.src m.lhs m.dst m.rhs n → (r ≡ known_back m.src m.lhs m.dst m.rhs n) × KnownReverse specs m n r
  reverse-known e = (e, known-reverse specs m w n r e)
