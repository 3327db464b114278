use Rattle.cg_c_quotients.proofs.Exponents.{mask_is}
use Rattle.cg_c_quotients.proofs.digits.mask_of.Goals as goal

pub returns-in-Some-clause-remainder : goal.returns-in-Some-clause-remainder
returns-in-Some-clause-remainder c = λ word. mask_is c.args.radix c.in-Some.field-0 word c.in-Some.ensures.1
