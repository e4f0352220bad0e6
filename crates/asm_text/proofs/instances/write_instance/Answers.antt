use Rattle.asm_text.proofs.WritableLaws.{InstanceHasText-from_admitted}
use Rattle.asm_text.proofs.instances.write_instance.Goals as goal

pub write_known-requires : goal.write_known-requires
write_known-requires c = InstanceHasText-from_admitted c.args.spec.now c.args.instance.now c.requires.admitted c.requires.resolved
