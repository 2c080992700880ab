use Rattle.std.proofs.Common.{arith, rules}
use Rattle.proposal.proofs.Masks.{fits_more}
use Rattle.proposal.proofs.pair.mask_fits.Goals as goal

pub loop-register-preserved : goal.loop-register-preserved
loop-register-preserved c = let e = fits_more c.loop-register.register c.args.registers c.loop-register.left c.args.symbols (omega arith) in search rules
