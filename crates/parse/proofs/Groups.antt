-- The groups of questions, one after the other, are the meaning's list. Assumes nothing.
use Prim.Native.Nat.{ℕ, suc}
use mathlib.Core.Path.{◌≡◌, refl}
use mathlib.Core.Bool.{Bool, true, false, not}
use mathlib.Core.Option.{Option, none, some}
use Rattle.meaning.specs.Bytes.{Text, ◌and◌, ◌or◌, present, absent, if_given}
use Rattle.meaning.specs.Names.{side_passes}
use Rattle.meaning.specs.Spec.{◌else◌then◌, Spec, is_negative, push, starred, at_most_one_star, exempt, stars_agree, sides_refusal, spec_refusal, has_colon, sides_of, unsigned, spec_of}
use Rattle.parse.specs.Questions.{◌or_else◌, entry_refusal, shape_refusal, text_refusal, side_refusal, negative_refusal}

-- questions that end in 0 before other questions
pub else-or_else : (b : Bool) (n rest more : ℕ) → ((b else suc n then rest) or_else more) ≡ (b else suc n then (rest or_else more))
else-or_else true n rest more = refl
else-or_else false n rest more = refl

-- a source that skips the name rules skips them only without a star
exempt-some : (op : ℕ) (s : Spec) (t : Text) → s.source ≡ some t → exempt op s ≡ ((push op and present s.destination) and not (starred t))
unfolding exempt
exempt-some op s t e = rw e (go (push op) (present s.destination))
  where
    go : (a b : Bool) → (a and b and not (starred t)) ≡ ((a and b) and not (starred t))
    go true b = refl
    go false b = refl

-- 5 and 6 of a source that may be absent
source-questions : (op : ℕ) (s : Spec) (o : Option Text) (more : ℕ) → s.source ≡ o → (if_given at_most_one_star o else 5 then (exempt op s or if_given side_passes o) else 6 then more) ≡ (side_refusal 5 (push op and present s.destination) o or_else more)
unfolding text_refusal
source-questions op s none more e = go (exempt op s)
  where
    go : (b : Bool) → ((b or true) else 6 then more) ≡ more
    go true = refl
    go false = refl
source-questions op s (some t) more e = rw (exempt-some op s t e) (go (at_most_one_star t) (((push op and present s.destination) and not (starred t)) or side_passes t))
  where
    go : (a b : Bool) → (a else 5 then b else 6 then more) ≡ ((a else 5 then b else 6 then 0) or_else more)
    go true true = refl
    go true false = refl
    go false b = refl

-- 7 and 8 of a destination that may be absent
destination-questions : (o : Option Text) (more : ℕ) → (if_given at_most_one_star o else 7 then if_given side_passes o else 8 then more) ≡ (side_refusal 7 false o or_else more)
unfolding text_refusal
destination-questions none more = refl
destination-questions (some t) more = go (at_most_one_star t) (side_passes t)
  where
    go : (a b : Bool) → (a else 7 then b else 8 then more) ≡ ((a else 7 then (false or b) else 8 then 0) or_else more)
    go true true = refl
    go true false = refl
    go false b = refl

-- the questions on the sides are the groups
pub sides-questions : (op : ℕ) (with_colon : Bool) (s : Spec) → sides_refusal op with_colon s ≡ (shape_refusal op with_colon s.mode (present s.source) (present s.destination) or_else side_refusal 5 (push op and present s.destination) s.source or_else side_refusal 7 false s.destination or_else (stars_agree op s else 9 then negative_refusal s.mode s.source))
unfolding sides_refusal shape_refusal negative_refusal
sides-questions op with_colon s =
    rw (source-questions op s s.source _ refl, destination-questions s.destination _)
    (go (not (is_negative s.mode and with_colon)) (not (push op and with_colon and present s.source and absent s.destination)) _)
  where
    go : (a b : Bool) (more : ℕ) → (a else 3 then b else 4 then more) ≡ ((a else 3 then b else 4 then 0) or_else more)
    go true true more = refl
    go true false more = refl
    go false b more = refl

-- all questions are those asked at entry, then those on the sides
pub spec-questions : (op : ℕ) (t : Text) → spec_refusal op t ≡ (entry_refusal op t or_else sides_refusal op (has_colon (sides_of (unsigned t))) (spec_of op t))
unfolding spec_refusal entry_refusal
spec-questions op t = rw (else-or_else, else-or_else, else-or_else)
