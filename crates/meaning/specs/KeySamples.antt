-- Canonical texts as price list keys, computed: specs that look alike, and texts that are read again.
use Rattle.std.specs.Prelude.{ℕ, ◌≡◌, refl, true, false, [], ◌∷◌}
use Rattle.std.proofs.Math.Option.{none, some}
use Prim.Native.String.{String}
use Rattle.meaning.specs.Bytes.{bytes}
use Rattle.meaning.specs.Spec.{accepted, refused}
use Rattle.meaning.specs.Instruction.{Instruction, fetch_only, fetch_exclude, fetch_and_update, push_all_matching_branches, push_delete, push_matching, push_exclude}
use Rattle.meaning.specs.Entries.{instructed, to_bstring}
use Rattle.meaning.specs.Everything.{everything}

-- a spec that is written out has this instruction and this key
abbrev Keyed : ℕ → String → Instruction → String → Type 0
Keyed op t i key = (instructed op (bytes t) ≡ accepted i) × (to_bstring op (bytes t) ≡ accepted (some (bytes key) ∷ []))

-- fetch
pub fetch-keys :
    Keyed 0 "" (fetch_only (bytes "HEAD")) "HEAD"
    × Keyed 0 "@" (fetch_only (bytes "HEAD")) "HEAD"
    × Keyed 0 "HEAD" (fetch_only (bytes "HEAD")) "HEAD"
    × Keyed 0 "+" (fetch_only (bytes "HEAD")) "HEAD"
    × Keyed 0 "+a:" (fetch_only (bytes "a")) "a"
    × Keyed 0 "++" (fetch_only (bytes "+")) "+"
    × Keyed 0 "^+a" (fetch_exclude (bytes "+a")) "^+a"
    × Keyed 0 "^@" (fetch_exclude (bytes "HEAD")) "^HEAD"
    × Keyed 0 ":b" (fetch_and_update (bytes "HEAD") (bytes "b") false) "HEAD:b"
    × Keyed 0 "+a:b" (fetch_and_update (bytes "a") (bytes "b") true) "+a:b"
    × Keyed 0 "++a:b" (fetch_and_update (bytes "+a") (bytes "b") true) "++a:b"
unfolding everything
fetch-keys =
    ((refl, refl), (refl, refl), (refl, refl), (refl, refl), (refl, refl), (refl, refl), (refl, refl), (refl, refl), (refl, refl), (refl, refl), (refl, refl))

-- push: all matching branches, delete, one side, sources that skip the name rules
pub push-keys :
    Keyed 1 ":" (push_all_matching_branches false) ":"
    × Keyed 1 "+:" (push_all_matching_branches true) "+:"
    × Keyed 1 "+" (push_all_matching_branches true) "+:"
    × Keyed 1 ":d" (push_delete (bytes "d")) ":d"
    × Keyed 1 "a" (push_matching (bytes "a") (bytes "a") false) "a:a"
    × Keyed 1 "a:a" (push_matching (bytes "a") (bytes "a") false) "a:a"
    × Keyed 1 "++a" (push_matching (bytes "+a") (bytes "+a") true) "++a:+a"
    × Keyed 1 "+^a:b" (push_matching (bytes "^a") (bytes "b") true) "+^a:b"
    × Keyed 1 "++:b" (push_matching (bytes "+") (bytes "b") true) "++:b"
    × Keyed 1 "::b" (push_matching (bytes ":") (bytes "b") false) "::b"
    × Keyed 1 "@:b" (push_matching (bytes "HEAD") (bytes "b") false) "HEAD:b"
    × Keyed 1 "^@" (push_exclude (bytes "HEAD")) "^HEAD"
unfolding everything
push-keys =
    ((refl, refl), (refl, refl), (refl, refl), (refl, refl), (refl, refl), (refl, refl), (refl, refl), (refl, refl), (refl, refl), (refl, refl), (refl, refl), (refl, refl))

-- the keys of fetch-only sources that begin with `+`, read again: as another, or not at all
pub plus-keys :
    (instructed 0 (bytes "+") ≡ accepted (fetch_only (bytes "HEAD")))
    × (instructed 0 (bytes "+a") ≡ accepted (fetch_only (bytes "a")))
    × (to_bstring 0 (bytes "++.a") ≡ accepted (some (bytes "+.a") ∷ []))
    × (instructed 0 (bytes "+.a") ≡ refused 6 none)
unfolding everything
plus-keys = (refl, refl, refl, refl)
