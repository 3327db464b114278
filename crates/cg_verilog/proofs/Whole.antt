-- From the tokens to the bytes.
use Rattle.std.proofs.Common.{◌≡◌, ℕ, List, length, Some, None}
use Rattle.cg_tokens.specs.Faults.{AreLast, FaultIn}
use Rattle.cg_tokens.specs.Table.{run}
use Rattle.cg_tokens.specs.Tokens.{Placed, tokens_of, texts, place_of}
use Rattle.cg_tokens.proofs.Bytes as bytes_of
use Rattle.cg_verilog.specs.Module.{IsText}
use Rattle.cg_verilog.specs.Rules.{rule, start, Spells}
use Rattle.cg_verilog.proofs.Exact.{table, spelled_text, text_spelled}

-- where the run stops, the bytes have their fault
pub fault_in : (bytes : List ℕ) (rest : List Placed) (place : ℕ) → AreLast rest (tokens_of None bytes) → run rule start (texts (tokens_of None bytes)) ≡ Some (texts rest) → place ≡ place_of (length bytes) rest → FaultIn None IsText bytes place
fault_in = bytes_of.fault_in rule Spells table start IsText text_spelled spelled_text None
