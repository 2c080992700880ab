-- What the faults of the rules tell.
use Rattle.std.specs.Prelude.{Result}
use Rattle.machine.specs.Which.{which_number}
use Rattle.machine.specs.Answer.{Answer, good, ◌then◌, Figures, told_by}
use Rattle.walk.specs.declared.fault.WalkFault.{WalkFault}
use Rattle.walk.specs.declared.fault.WalkFault.TheVariants as walks
use Rattle.rules.specs.declared.fault.EndFault.{EndFault}
use Rattle.rules.specs.declared.fault.EndFault.TheVariants as ends
use Rattle.judgement.specs.declared.fault.RuleFault.{RuleFault}
use Rattle.judgement.specs.declared.fault.RuleFault.TheVariants.{ImpossibleStep, OverLimits, NotInfeasible, Unsettled, Outputs, EndStates, Register, Fact}

abbrev pub of_walk : WalkFault → RuleFault
of_walk walks.OverLimits = OverLimits
of_walk (walks.Unsettled i) = Unsettled i

abbrev pub of_end : EndFault → RuleFault
of_end ends.OverLimits = OverLimits
of_end (ends.Register machine register) = Register machine register
of_end (ends.Fact place) = Fact place

abbrev pub rule_figures : RuleFault → Figures
rule_figures (ImpossibleStep machine step) = record { number = 12; machine = which_number machine; place = step }
rule_figures OverLimits = record { number = 11; machine = 0; place = 0 }
rule_figures NotInfeasible = record { number = 13; machine = 0; place = 0 }
rule_figures (Unsettled step) = record { number = 14; machine = 2; place = step }
rule_figures (Outputs place) = record { number = 15; machine = 0; place = place }
rule_figures EndStates = record { number = 16; machine = 0; place = 0 }
rule_figures (Register machine register) = record { number = 17; machine = which_number machine; place = register }
rule_figures (Fact place) = record { number = 18; machine = 0; place = place }

-- What a judgement says: that no rule fails, or the first that does.
abbrev pub told_rule : {U : Type 0} → Result U RuleFault → Answer (Unit {0})
told_rule r = told_by rule_figures r then λ _. good tt
