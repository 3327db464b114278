use Rattle.cg_list_laws.proofs.Grown.{unbegun, grown}
use Rattle.cg_command_files.specs.Image.{stream_line}
use Rattle.cg_command_files.proofs.imaging.push_streams.Goals as goal

pub loop-port-init : goal.loop-port-init
loop-port-init c = unbegun _ _

pub loop-port-preserved : goal.loop-port-preserved
loop-port-preserved c = grown (stream_line c.args.image.now) _ _ _ _ c.loop-port.invariant c.in_ok-push_stream.ensures
