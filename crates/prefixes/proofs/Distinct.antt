-- Texts in first-seen order, each once: they are exactly the texts, and none stands twice. Assumes nothing.
use Prim.Native.Nat.{ℕ}
use mathlib.Core.Path.{◌≡◌, refl, sym, ◌∙◌}
use mathlib.Core.Bool.{Bool, true, false, cond, true≢false}
use mathlib.Core.List.{List, [], ◌∷◌, ◌++◌}
use mathlib.Core.Logic.{◌⊎◌, inl, inr}
use Rattle.meaning.specs.Bytes.{Text, any, same, each, In, here, there, Once}
use Rattle.meaning.specs.Spec.{Spec}
use Rattle.meaning.specs.Prefix.{expand_prefixes, GroupPrefixes}
use Rattle.promises.proofs.Laws.{in_left, in_right, in-append, in-any, any-in, in-cons, in-cast, same-is, same_refl}
use Rattle.prefixes.specs.Distinct.{add_new, add_all}

-- the texts of two lists, one after the other
pub all_append : (seen a b : List Text) → add_all seen (a ++ b) ≡ add_all (add_all seen a) b
all_append seen [] b = refl
all_append seen (t ∷ a) b = all_append (add_new seen t) a b

-- a text that was not seen stands once after the others
once_last : (l : List Text) (t : Text) → Once l → (In t l → ⊥) → Once (l ++ (t ∷ []))
once_last [] t o n = (λ h. elim h [ ], tt)
once_last (s ∷ l) t o n = (λ h. not_first (in-append l h), once_last l t o.1 (λ h. n (there h)))
  where
    not_first : In s l ⊎ In s (t ∷ []) → ⊥
    not_first (inl h) = o.0 h
    not_first (inr h) = last (in-cons h)
      where
        last : (s ≡ t) ⊎ In s [] → ⊥
        last (inl e) = n (in-cast (sym e) here)
        last (inr h) = elim h [ ]

module _ (seen : List Text) (t : Text) where
  -- none stands twice
  new-once : Once seen → Once (add_new seen t)
  unfolding add_new
  new-once o = go (any (same t) seen) refl
    where
      go : (b : Bool) → any (same t) seen ≡ b → Once (cond b seen (seen ++ (t ∷ [])))
      go true e = o
      go false e = once_last seen t o (λ h. true≢false (sym (in-any (same t) h (same_refl t)) ∙ e))

  -- what was seen is there
  new-old : (u : Text) → In u seen → In u (add_new seen t)
  unfolding add_new
  new-old u h = go (any (same t) seen)
    where
      go : (b : Bool) → In u (cond b seen (seen ++ (t ∷ [])))
      go true = h
      go false = in_left (t ∷ []) h

  -- so is the text
  new-there : In t (add_new seen t)
  unfolding add_new
  new-there = go (any (same t) seen) refl
    where
      go : (b : Bool) → any (same t) seen ≡ b → In t (cond b seen (seen ++ (t ∷ [])))
      go true e = let r = any-in (same t) seen e in in-cast (same-is t r.0 r.2) r.1
      go false e = in_right seen here

  -- and nothing else
  new-only : (u : Text) → In u (add_new seen t) → In u seen ⊎ (u ≡ t)
  unfolding add_new
  new-only u h = go (any (same t) seen) h
    where
      last : In u seen ⊎ In u (t ∷ []) → In u seen ⊎ (u ≡ t)
      last (inl h) = inl h
      last (inr h) = first (in-cons h)
        where
          first : (u ≡ t) ⊎ In u [] → In u seen ⊎ (u ≡ t)
          first (inl e) = inr e
          first (inr h) = elim h [ ]

      go : (b : Bool) → In u (cond b seen (seen ++ (t ∷ []))) → In u seen ⊎ (u ≡ t)
      go true h = inl h
      go false h = last (in-append seen h)

-- no text stands twice
all_once : (seen l : List Text) → Once seen → Once (add_all seen l)
all_once seen [] o = o
all_once seen (t ∷ l) o = all_once (add_new seen t) l (new-once seen t o)

-- what was seen is there
all_old : (seen l : List Text) (u : Text) → In u seen → In u (add_all seen l)
all_old seen [] u h = h
all_old seen (t ∷ l) u h = all_old (add_new seen t) l u (new-old seen t u h)

-- so is each text
all_there : (seen l : List Text) (u : Text) → In u l → In u (add_all seen l)
all_there seen [] u h = elim h [ ]
all_there seen (t ∷ l) u here = all_old (add_new seen u) l u (new-there seen u)
all_there seen (t ∷ l) u (there h) = all_there (add_new seen t) l u h

-- and nothing else
all-only : (seen l : List Text) (u : Text) → In u (add_all seen l) → In u seen ⊎ In u l
all-only seen [] u h = inl h
all-only seen (t ∷ l) u h = go (all-only (add_new seen t) l u h)
  where
    new : In u seen ⊎ (u ≡ t) → In u seen ⊎ In u (t ∷ l)
    new (inl h) = inl h
    new (inr e) = inr (in-cast e here)

    go : In u (add_new seen t) ⊎ In u l → In u seen ⊎ In u (t ∷ l)
    go (inl h) = new (new-only seen t u h)
    go (inr h) = inr (there h)

-- the texts that the specs of a group yield, in first-seen order, are its prefix list
pub distinct-prefixes : (op : ℕ) (group : List Spec) → GroupPrefixes op group (add_all [] (each group (expand_prefixes op)))
distinct-prefixes op group =
    record {
      once = all_once [] (each group (expand_prefixes op)) tt;
      all = λ t h. all_there [] (each group (expand_prefixes op)) t h;
      only = λ t h. only t (all-only [] (each group (expand_prefixes op)) t h);
    }
  where
    only : (t : Text) → In t [] ⊎ In t (each group (expand_prefixes op)) → In t (each group (expand_prefixes op))
    only t (inl h) = elim h [ ]
    only t (inr h) = h
