use Rattle.cg_image_text.proofs.Cutting.{first_is}
use Rattle.cg_image_text.proofs.field.first_field.Goals as goal

pub returns-clause-first : goal.returns-clause-first
returns-clause-first c = λ b rest e. first_is c.args.bytes.now rest b _ c.args.place e c.solid_length-more.ensures.count
