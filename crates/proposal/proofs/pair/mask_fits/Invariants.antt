use Rattle.std.proofs.Common.{◌≡◌, ◌-◌}
use Rattle.proposal.proofs.Masks.{fits}
use Rattle.proposal.proofs.pair.mask_fits.Given as goal

abbrev pub invariant-loop-register : goal.invariant-loop-register
invariant-loop-register l = fits (l.registers - l.register) l.left l.register l.symbols ≡ fits l.registers l.mask 0 l.symbols
