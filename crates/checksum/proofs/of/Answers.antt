-- `checksum::of` meets its contract: the steps over the bytes are the division over their bits.
-- Assumes nothing.
use Rattle.std.proofs.Common.{◌≡◌, ◌∙◌, fold, rules}
use Rattle.checksum.specs.Checksum.{start, stepped}
use Rattle.checksum.proofs.Register.{checksum-steps}
use Rattle.checksum.proofs.of.Goals as goal

pub returns-clause-value : goal.returns-clause-value
returns-clause-value c =
    let steps : c.fold.result ≡ fold stepped start c.args.bytes.now = search rules in
    steps ∙ checksum-steps c.args.bytes.now
