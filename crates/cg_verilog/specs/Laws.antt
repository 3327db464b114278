-- Laws of modules and their texts.
use Rattle.std.specs.Prelude.{◌≡◌, ℕ, None, List}
use Rattle.cg_tokens.specs.Tokens.{tokens_of, texts}
use Rattle.cg_verilog.specs.Module.{ModuleText, IsModule, module_tokens, IsText}
use Rattle.cg_verilog.specs.Printed.{module_text}

-- the printed text of a module has its tokens
abbrev pub IsPrinted : Type 0
IsPrinted = (m : ModuleText) → IsModule m → texts (tokens_of None (module_text m)) ≡ module_tokens m

-- modules with the same tokens are equal
abbrev pub AreOne : Type 0
AreOne = (m n : ModuleText) → IsModule m → IsModule n → module_tokens m ≡ module_tokens n → m ≡ n

-- modules with the same printed text are equal
abbrev pub AreOneInPrint : Type 0
AreOneInPrint = (m n : ModuleText) → IsModule m → IsModule n → module_text m ≡ module_text n → m ≡ n

-- the tokens of a module are those of some bytes, so a property of tokens can be stated of bytes
abbrev pub AreWritten : Type 0
AreWritten = (tokens : List (List ℕ)) → IsText tokens → (bytes : List ℕ) × (texts (tokens_of None bytes) ≡ tokens)
