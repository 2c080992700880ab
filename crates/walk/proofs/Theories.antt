-- What is known of normal forms, from the laws of the domain.
use Rattle.domain.specs.Ring.{Ops, Laws}
use Rattle.forms.proofs.Laws.{lawful}
use Rattle.forms.proofs.Valuing.{value_kept}
use Rattle.walk.proofs.SettledLaw.{Theory}

pub theory_of : {D : Type 0} (o : Ops D) → Laws o → Theory o
theory_of o laws = record { lawful = lawful laws; valued = value_kept laws }
