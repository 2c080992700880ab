-- The exit of a `?`: the fault goes on unchanged.
use Rattle.std.proofs.Common.{◌≡◌, IsErrAnd, IfOk, Result}
use Rattle.std.proofs.lemmas.Result.{err_from_is_err_and}
use Rattle.machine.specs.declared.table.TableFault.{TableFault}
use Rattle.machine.specs.Answer.{Answer, refused}
use Rattle.machine.specs.Reading.{table_figures, told}

pub exit_told : {X : Type 0} (r : Result X TableFault) (f : TableFault) (a : Answer X) → IsErrAnd r (λ x. x ≡ f) → refused (table_figures f).number (table_figures f).machine (table_figures f).place ≡ a → told r ≡ a
exit_told {X} r f a e h = let p = err_from_is_err_and r e in rw (p.1, p.2) h

pub exit_within : {X : Type 0} (r : Result X TableFault) (f : TableFault) (P : X → Type 0) → IsErrAnd r (λ x. x ≡ f) → IfOk r P
exit_within {X} r f P e = let p = err_from_is_err_and r e in rw p.1 tt
