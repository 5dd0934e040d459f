-- Laws of the definitions.
use Rattle.std.specs.Prelude.{◌≡◌, ℕ, List}
use Rattle.rule_terms.specs.declared.defs.CellShape.{CellShape}
use Rattle.rule_tokens.specs.declared.token.RuleToken.{RuleToken}
use Rattle.rule_cells.specs.declared.form.FormFault.TheVariants.{NoReading}
use Rattle.rule_cells.specs.declared.form.RuleForm.{RuleForm}
use Rattle.rule_cells.specs.Forms.{IsForm, IsFormFault}

-- a text has one form
abbrev pub HasOneForm : Type 0
HasOneForm = (cells : List CellShape) (text : List ℕ) (tokens : List RuleToken) (one other : RuleForm) → IsForm cells text tokens one → IsForm cells text tokens other → one ≡ other

-- or one place at which there is no reading
abbrev pub HasOnePlace : Type 0
HasOnePlace =
    (cells : List CellShape) (text : List ℕ) (tokens : List RuleToken) (one other : ℕ) → IsFormFault cells text tokens (NoReading one) → IsFormFault cells text tokens (NoReading other)
    → one ≡ other

-- but never both
abbrev pub HasFormOrPlace : Type 0
HasFormOrPlace =
    (cells : List CellShape) (text : List ℕ) (tokens : List RuleToken) (form : RuleForm) (at : ℕ) → IsForm cells text tokens form → IsFormFault cells text tokens (NoReading at) → ⊥
