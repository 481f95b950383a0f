-- Reports on two specs, computed: where document 02 could be taken differently.
use Rattle.std.specs.Prelude.{◌≡◌, refl, [], ◌∷◌, ◌++◌, replicate}
use Rattle.std.proofs.Math.Option.{Option, none, some}
use Prim.Native.String.{String}
use Rattle.meaning.specs.Bytes.{Text, bytes, byte}
use Rattle.meaning.specs.Spec.{Answer, accepted, refused}
use Rattle.meaning.specs.Collide.{collide, collide_bytes}
use Rattle.meaning.specs.Everything.{everything}

-- the report on two specs that are written out
abbrev on : String → String → Answer (Option Text)
on t u = collide (bytes t) (bytes u)

-- a yes with a destination that is written out
abbrev yes_on : String → Answer (Option Text)
yes_on d = accepted (some (bytes d))

-- patterns: the longer start followed by the longer end, which may be no bytes at all
pub patterns :
    (on "refs/heads/*:refs/hub/*" "refs/tags/*:refs/hub/*" ≡ yes_on "refs/hub/")
    × (on "refs/heads/*:refs/*" "refs/tags/*:refs/hub/*" ≡ yes_on "refs/hub/")
    × (on "refs/a*:refs/a*b" "refs/*:refs/ab*" ≡ yes_on "refs/abb")
    × (on "*:a*b" "*:*xb" ≡ yes_on "axb")
    × (on "*:*" "*:*" ≡ yes_on "")
    × (on "*:a*" "*:b*" ≡ accepted none)
    × (on "*:a*b" "*:a*c" ≡ accepted none)
unfolding everything
patterns = (refl, refl, refl, refl, refl, refl, refl)

-- literals in their completed form, against literals and patterns
pub literals :
    (on "a:x" "b:refs/heads/x" ≡ yes_on "refs/heads/x")
    × (on "a:tags/x" "b:refs/tags/x" ≡ yes_on "refs/tags/x")
    × (on "a:x" "b:tags/x" ≡ accepted none)
    × (on "a:x" "*:refs/*" ≡ yes_on "refs/heads/x")
    × (on "*:refs/*" "a:x" ≡ yes_on "refs/heads/x")
    × (on "a:x" "*:x*" ≡ accepted none)
    × (on "b:aa" "*:refs/heads/a*a" ≡ yes_on "refs/heads/aa")
    × (on "b:a" "*:refs/heads/a*a" ≡ accepted none)
    × (on "refs/a:refs/x" "refs/a:refs/x" ≡ yes_on "refs/x")
unfolding everything
literals = (refl, refl, refl, refl, refl, refl, refl, refl, refl)

-- forty capital letters A, and what they are completed to
abbrev capitals : Text
capitals = replicate 40 (byte "A")

-- an object id as source, and as destination
pub objects :
    (collide (capitals ++ bytes ":x") (bytes "b:x") ≡ yes_on "refs/heads/x")
    × (collide (bytes "a:" ++ capitals) (bytes "b:refs/heads/" ++ replicate 40 (byte "a")) ≡ accepted (some (bytes "refs/heads/" ++ replicate 40 (byte "a"))))
unfolding everything
objects = (refl, refl)

-- negatives and specs without destination; refusals, the first's before the second's
pub others :
    (on "^a" "a:x" ≡ accepted none)
    × (on "a:x" "^a" ≡ accepted none)
    × (on "^refs/x" "a:refs/x" ≡ accepted none)
    × (on "a:refs/x" "^refs/*" ≡ accepted none)
    × (on "refs/x" "a:refs/x" ≡ accepted none)
    × (on "a" "a:HEAD" ≡ accepted none)
    × (on "" ":HEAD" ≡ accepted none)
    × (on "^" "a:@" ≡ refused 10 (some 1))
    × (on "a:@" "^" ≡ refused 8 (some 1))
    × (on "a:x" "^" ≡ refused 10 (some 2))
unfolding everything
others = (refl, refl, refl, refl, refl, refl, refl, refl, refl, refl)

-- the bytes of a yes and of a no: a yes may have none, and is another answer
pub entries :
    (collide_bytes (bytes "*:*") (bytes "*:*") ≡ accepted (some [] ∷ []))
    × (collide_bytes (bytes "a") (bytes "*:*") ≡ accepted (none ∷ []))
    × (collide_bytes (bytes "a:x") (bytes "b:x") ≡ accepted (some (bytes "refs/heads/x") ∷ []))
unfolding everything
entries = (refl, refl, refl)
