-- `write::Pieces::size` meets its contract: the lengths of the pieces add up.
use mathlib.Core.Path.{◌≡◌}
use lib.ListN.{length}
use Rattle.write.specs.Canonical.{sign_text, dst_text}
use Rattle.write.proofs.Texts.{sign-length, dst-some-length, dst-none-length, pieces-length}
use Rattle.write.proofs.Pieces.size.Goals.{in-Some, in-None}
use Rattle.write.proofs.Pieces.size.Goals as goal

pub returns : goal.returns
returns c =
    let a : c.from-sign.result ≡ length (sign_text c.args.self.sign) = rw (c.from-sign.ensures, c.is_some.ensures) (sign-length c.args.self.sign) in
    let d : c.match-self.dst ≡ length (dst_text c.args.spec.now c.args.self.dst) =
    elim c.match-self.branch [ in-Some w ↦ search dst-some-length | in-None w ↦ search dst-none-length ] in
    search pieces-length
