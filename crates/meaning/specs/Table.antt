-- The starred lines of document 01, proved together.
use Rattle.std.specs.Prelude.{◌≡◌, refl, [], ◌∷◌}
use Rattle.std.proofs.Math.Option.{none, some}
use Rattle.meaning.specs.Bytes.{Text, bytes}
use Rattle.meaning.specs.Spec.{Answer, accepted, refused, Normal, Spec, read_spec}
use Rattle.meaning.specs.Buffers.{Outputs}
use Rattle.meaning.specs.Instruction.{fetch_only, push_delete}
use Rattle.meaning.specs.Match.{unmapped, mapped, forward}
use Rattle.meaning.specs.Entries.{instructed, prefixed, to_bstring, expanded}
use Rattle.meaning.specs.Everything.{everything}

-- an answer of one text, written short
abbrev text : Text → Answer Outputs
text t = accepted (some t ∷ [])

-- a spec with a source only, written short
abbrev source : Text → Spec
source s = record { mode = Normal; source = some s; destination = none }

-- a spec with both sides, written short
abbrev sides : Text → Text → Spec
sides s d = record { mode = Normal; source = some s; destination = some d }

-- fetch is operation 0, push 1; a line that names neither holds for both
pub record Table : Type 0 where
  -- empty: fetch, HEAD only; push, 2
  pub nothing : (instructed 0 [] ≡ accepted (fetch_only (bytes "HEAD"))) × (read_spec 1 [] ≡ refused 2 none)
  -- `^`: 10
  pub caret-alone : (read_spec 0 (bytes "^") ≡ refused 10 none) × (read_spec 1 (bytes "^") ≡ refused 10 none)
  -- `^a:b`: 3
  pub caret-colon : (read_spec 0 (bytes "^a:b") ≡ refused 3 none) × (read_spec 1 (bytes "^a:b") ≡ refused 3 none)
  -- `a:`: push 4; fetch, only a
  pub colon-last : (read_spec 1 (bytes "a:") ≡ refused 4 none) × (instructed 0 (bytes "a:") ≡ accepted (fetch_only (bytes "a")))
  -- `a*:b`: 9
  pub star-and-none : (read_spec 0 (bytes "a*:b") ≡ refused 9 none) × (read_spec 1 (bytes "a*:b") ≡ refused 9 none)
  -- `a*`: fetch 9; push, text `a*:a*`
  pub star-alone : (read_spec 0 (bytes "a*") ≡ refused 9 none) × (to_bstring 1 (bytes "a*") ≡ text (bytes "a*:a*"))
  -- `a**:b*`: 5
  pub two-stars : (read_spec 0 (bytes "a**:b*") ≡ refused 5 none) × (read_spec 1 (bytes "a**:b*") ≡ refused 5 none)
  -- `+:d` push: delete, text `:d`
  pub delete : (instructed 1 (bytes "+:d") ≡ accepted (push_delete (bytes "d"))) × (to_bstring 1 (bytes "+:d") ≡ text (bytes ":d"))
  -- `++a` fetch: only `+a`, text `+a`, which reads as only `a`
  pub two-pluses :
      (instructed 0 (bytes "++a") ≡ accepted (fetch_only (bytes "+a")))
      × (to_bstring 0 (bytes "++a") ≡ text (bytes "+a"))
      × (instructed 0 (bytes "+a") ≡ accepted (fetch_only (bytes "a")))
  -- `:/fix:refs/heads/b` push: source `:/fix`
  pub last-colon : read_spec 1 (bytes ":/fix:refs/heads/b") ≡ accepted (sides (bytes ":/fix") (bytes "refs/heads/b"))
  -- `a:@`: 8
  pub at-destination : (read_spec 0 (bytes "a:@") ≡ refused 8 none) × (read_spec 1 (bytes "a:@") ≡ refused 8 none)
  -- source `a*a`: no match on `a`, match on `aa`
  pub no-overlap : (forward (source (bytes "a*a")) (bytes "a") ≡ unmapped) × (forward (source (bytes "a*a")) (bytes "aa") ≡ mapped none)
  -- `refs/*:b/*` fetch: no prefix; prefix list `refs/*`
  pub wide-pattern : (prefixed 0 (bytes "refs/*:b/*") ≡ accepted none) × (expanded 0 (bytes "refs/*:b/*") ≡ text (6 ∷ bytes "refs/*"))
  -- `refs/*/b:b/*` fetch: neither
  pub deep-pattern : (prefixed 0 (bytes "refs/*/b:b/*") ≡ accepted none) × (expanded 0 (bytes "refs/*/b:b/*") ≡ text [])

-- the starred lines hold
pub table : Table
unfolding everything
table =
    record {
      nothing = (refl, refl);
      caret-alone = (refl, refl);
      caret-colon = (refl, refl);
      colon-last = (refl, refl);
      star-and-none = (refl, refl);
      star-alone = (refl, refl);
      two-stars = (refl, refl);
      delete = (refl, refl);
      two-pluses = (refl, refl, refl);
      last-colon = refl;
      at-destination = (refl, refl);
      no-overlap = (refl, refl);
      wide-pattern = (refl, refl);
      deep-pattern = (refl, refl);
    }
