use Rattle.std.proofs.Common.{Some, Ok, refl, ap}
use Rattle.forms.specs.Forms as Forms
use Rattle.expression.specs.Run.{pushed}
use Rattle.workspace.specs.Views.{forms, named}
use Rattle.workspace.specs.Evaluation.{symbol_forms}
use Rattle.workspace.proofs.Applied.{on_leaf, on_last, on_both}
use Rattle.workspace.proofs.evaluator.apply.Goals as goal

pub returns-in-Sum : goal.returns-in-Sum
returns-in-Sum g c =
    let p = on_both g.D.Domain.ops c.args.leaves c.args.slots.now c.args.depth c.args.item c.requires.stands _ c.in-Sum.is c.sum.result (forms c.sum.new.self) _ refl (λ s. refl) c.sum.ensures.forms in
    record { kept = p.1; stack = p.0 }

pub returns-in-Difference : goal.returns-in-Difference
returns-in-Difference g c =
    let p = on_both g.D.Domain.ops c.args.leaves c.args.slots.now c.args.depth c.args.item c.requires.stands _ c.in-Difference.is c.difference.result (forms c.difference.new.self) _ refl (λ s. refl) c.difference.ensures.forms in
    record { kept = p.1; stack = p.0 }

pub returns-in-Product : goal.returns-in-Product
returns-in-Product g c =
    let p = on_both g.D.Domain.ops c.args.leaves c.args.slots.now c.args.depth c.args.item c.requires.stands _ c.in-Product.is c.product.result (forms c.product.new.self) _ refl (λ s. refl) c.product.ensures.forms in
    record { kept = p.1; stack = p.0 }

pub returns-in-Negation : goal.returns-in-Negation
returns-in-Negation g c =
    let p = on_last g.D.Domain.ops c.args.leaves c.args.slots.now c.args.depth c.args.item c.requires.stands _ c.in-Negation.is (forms c.negation.new.self) _ refl (λ s. refl) c.negation.ensures.forms in
    record { kept = p.1; stack = p.0 }

pub returns-in-Register : goal.returns-in-Register
returns-in-Register g c =
    let p = on_leaf g.D.Domain.ops c.args.leaves c.args.slots.now c.args.depth c.args.item c.requires.stands _ c.in-Register.is c.read.result (forms c.read.new.self) _ refl (λ s. refl) c.read.ensures.forms in
    record { kept = p.1; stack = p.0 }

pub returns-in-Input : goal.returns-in-Input
returns-in-Input g c =
    let p = on_leaf g.D.Domain.ops c.args.leaves c.args.slots.now c.args.depth c.args.item c.requires.stands _ c.in-Input.is c.input.result (forms c.input.new.self) _ refl (λ s. refl) c.input.ensures.forms in
    record { kept = p.1; stack = p.0 }

pub returns-in-Constant : goal.returns-in-Constant
returns-in-Constant g c =
    let p = on_leaf g.D.Domain.ops c.args.leaves c.args.slots.now c.args.depth c.args.item c.requires.stands _ c.in-Constant.is {U = Unit {0}} {E = Unit {0}} (Ok tt) (forms c.constant.new.self) (Some (Forms.constant_form g.D.Domain.ops c.in-Constant.n)) refl (λ s. refl) (ap Some c.constant.ensures.forms) in
    record { kept = p.1; stack = p.0 }

pub returns-in-Own : goal.returns-in-Own
returns-in-Own g c =
    let p = on_leaf g.D.Domain.ops c.args.leaves c.args.slots.now c.args.depth c.args.item c.requires.stands _ c.in-Symbol.is c.symbol.result (forms c.symbol.new.self) _ refl (λ s. ap (λ m. pushed (symbol_forms g.D.Domain.ops (named (forms c.args.slots.now)) m c.in-Symbol.n) s) c.in-Own.is) c.symbol.ensures.forms in
    record { kept = p.1; stack = p.0 }

pub returns-in-Kept : goal.returns-in-Kept
returns-in-Kept g c =
    let p = on_leaf g.D.Domain.ops c.args.leaves c.args.slots.now c.args.depth c.args.item c.requires.stands _ c.in-Symbol.is c.read-in-Kept.result (forms c.read-in-Kept.new.self) _ refl (λ s. ap (λ m. pushed (symbol_forms g.D.Domain.ops (named (forms c.args.slots.now)) m c.in-Symbol.n) s) c.in-Kept.is) c.read-in-Kept.ensures.forms in
    record { kept = p.1; stack = p.0 }
