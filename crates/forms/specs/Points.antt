-- Worked points of the definitions.
use Rattle.std.specs.Prelude.{◌≡◌, List, [], ◌∷◌, Some, None, Option}
use Rattle.domain.specs.Ring.{Ops}
use Rattle.domain.specs.Words.{word_ops, word_of}
use Rattle.domain.specs.Bytes.{byte_ops, byte_of}
use Rattle.domain.specs.Points.{DomainPoints}
use Rattle.expression.specs.Run.{meaning}
use Rattle.expression.specs.declared.item.Item.{Item}
use Rattle.expression.specs.declared.item.Item.TheVariants.{Constant, Symbol, Sum, Difference, Product}
use Rattle.forms.specs.Forms.{Form, term, symbol_form}
use Rattle.forms.specs.Limited.{limited}

-- the form of an expression over inputs and symbols
abbrev pub form_of : {D : Type 0} → Ops D → List Item → Option (Form D)
form_of o e = meaning (limited o (λ n. None) (symbol_form o)) e

-- (s0 + 1) (s0 - 1)
abbrev pub squares : List Item
squares = Symbol 0 ∷ Constant 1 ∷ Sum ∷ Symbol 0 ∷ Constant 1 ∷ Difference ∷ Product ∷ []

-- the fourth power of s0, and the fifth
abbrev pub fourth : List Item
fourth = Symbol 0 ∷ Symbol 0 ∷ Product ∷ Symbol 0 ∷ Product ∷ Symbol 0 ∷ Product ∷ []

abbrev pub fifth : List Item
fifth = Symbol 0 ∷ Symbol 0 ∷ Product ∷ Symbol 0 ∷ Product ∷ Symbol 0 ∷ Product ∷ Symbol 0 ∷ Product ∷ []

pub record FormPoints : Type 0 where
  -- over words (s0 + 1) (s0 - 1) has the terms 01010000 with 1 and 00000000 with hex ffffffff, over bytes both have 1
  pub squares_words : form_of word_ops squares ≡ Some (term (word_of 1) (record { 0 = 0x01010000 }) ∷ term (word_of 0xffffffff) (record { 0 = 0 }) ∷ [])
  pub squares_bytes : form_of byte_ops squares ≡ Some (term (byte_of 1) (record { 0 = 0x01010000 }) ∷ term (byte_of 1) (record { 0 = 0 }) ∷ [])
  -- the fourth power of s0 fits, times s0 it is over the limits
  pub fourth_words : form_of word_ops fourth ≡ Some (term (word_of 1) (record { 0 = 0x01010101 }) ∷ [])
  pub fourth_bytes : form_of byte_ops fourth ≡ Some (term (byte_of 1) (record { 0 = 0x01010101 }) ∷ [])
  pub fifth_words : form_of word_ops fifth ≡ None
  pub fifth_bytes : form_of byte_ops fifth ≡ None
  -- the points of the domains
  pub domains : DomainPoints
