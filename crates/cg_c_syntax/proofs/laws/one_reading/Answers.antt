use Rattle.cg_c_syntax.proofs.GoingOn.{some_goes_on}
use Rattle.cg_c_syntax.proofs.OneReading.{one_source, no_fault, one_fault, none_goes_on}
use Rattle.cg_c_syntax.proofs.laws.one_reading.Goals as goal

pub returns : goal.returns
returns c = record { source = one_source; none = no_fault; fault = one_fault; ends = none_goes_on; begins = some_goes_on }
