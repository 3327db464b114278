use Rattle.cg_kernel_text.proofs.Plain.{answer-kernel_text}
use Rattle.cg_kernel_text.proofs.laws.text_reads_back.Goals as goal

pub returns : goal.returns
returns c = answer-kernel_text
