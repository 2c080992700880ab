-- An expression of a proposal over the slots.
use Rattle.std.proofs.Common.{◌≡◌, ℕ, List, refl, ap₂}
use mathlib.Core.Path.{fun_ext}
use Rattle.domain.specs.Ring.{Ops}
use Rattle.expression.specs.Run.{meaning}
use Rattle.expression.specs.declared.item.Item.{Item}
use Rattle.forms.specs.Forms.{Form}
use Rattle.forms.specs.Limited.{limited}
use Rattle.workspace.specs.declared.leaves.Symbols.{Symbols}
use Rattle.workspace.specs.declared.leaves.Symbols.TheVariants.{Own, Kept}
use Rattle.workspace.specs.Views.{named}
use Rattle.workspace.specs.Evaluation.{reading, symbol_forms}
use Rattle.walk.proofs.WorkedOut.{group_nth, none_there}
use Rattle.correspondence.specs.Judgement.{form_in_proposal}
use Rattle.rules.specs.Seen.{proposal_leaves, symbols_seen}

module _ {D : Type 0} (o : Ops D) (fs : List (Form D)) where
  symbols_read : (s : Symbols) → (n : ℕ) → symbol_forms o (named fs) s n ≡ symbols_seen o s fs n
  symbols_read Own n = refl
  symbols_read (Kept g) n = group_nth fs g n

  pub proposal_reads : (s : Symbols) (e : List Item) → meaning (reading o (proposal_leaves s) (named fs)) e ≡ form_in_proposal o (symbols_seen o s fs) e
  proposal_reads s e = ap₂ (λ r t. meaning (limited o r t) e) (fun_ext (none_there fs)) (fun_ext (symbols_read s))
