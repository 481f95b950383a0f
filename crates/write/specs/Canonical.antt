-- The pieces of a canonical text, as places.
use Rattle.std.specs.Prelude.{ℕ, Bool, false, cond, Option, Some, None, [], ◌∷◌, ◌++◌}
use Rattle.meaning.specs.Bytes.{Text, plus, colon, caret}
use Rattle.parse.specs.declared.types.Side.{Side}
use Rattle.parse.specs.declared.types.Side.TheVariants.{Absent}
use Rattle.parse.specs.Places.{Within}
use Rattle.refspec.specs.declared.instruction.Instruction.{Instruction}
use Rattle.refspec.specs.declared.instruction.Instruction.TheVariants.{FetchOnly, FetchExclude, FetchAndUpdate, PushAllMatchingBranches, PushDelete, PushMatching, PushExclude}
use Rattle.write.specs.declared.Pieces.{Pieces}
use Rattle.refspec.specs.Instructions.{side_text}

-- `+` where forced, a source, a colon, a destination
abbrev pub two_pieces : Bool → Side → Side → Pieces
two_pieces force src dst = record { sign = cond force (Some plus) None; src = src; dst = Some dst }

-- the pieces of an instruction's text
abbrev pub pieces_of : Instruction → Pieces
pieces_of (FetchOnly src) = record { sign = None; src = src; dst = None }
pieces_of (FetchExclude src) = record { sign = Some caret; src = src; dst = None }
pieces_of (FetchAndUpdate src dst force) = two_pieces force src dst
pieces_of (PushAllMatchingBranches force) = two_pieces force Absent Absent
pieces_of (PushDelete dst) = two_pieces false Absent dst
pieces_of (PushMatching src dst force) = two_pieces force src dst
pieces_of (PushExclude src) = record { sign = Some caret; src = src; dst = None }

-- the text of a sign
abbrev pub sign_text : Option ℕ → Text
sign_text None = []
sign_text (Some b) = b ∷ []

-- the text of a destination
abbrev pub dst_text : Text → Option Side → Text
dst_text t None = []
dst_text t (Some side) = colon ∷ side_text t side

-- the text that pieces make
unfoldable pub pieces_text : Text → Pieces → Text
pieces_text t p = sign_text p.sign ++ (side_text t p.src ++ dst_text t p.dst)

-- a destination that is there stands within so many bytes
abbrev pub DstWithin : ℕ → Option Side → Type 0
DstWithin len None = Unit {0}
DstWithin len (Some side) = Within len side

-- both sides stand within so many bytes
pub record PiecesWithin (len : ℕ) (p : Pieces) : Type 0 where
  pub src-within : Within len p.src
  pub dst-within : DstWithin len p.dst
