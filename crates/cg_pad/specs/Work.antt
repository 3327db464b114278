-- The operation at work that a value of the program represents.
use Rattle.cg_model.specs.Work as works
use Rattle.cg_pad.specs.declared.work.Work.{Work}

abbrev pub work_of : Work → works.Work
work_of w = record { op = w.op; port = w.port; turn = w.turn; args = w.args }
