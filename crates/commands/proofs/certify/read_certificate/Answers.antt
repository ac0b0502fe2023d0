use Rattle.commands.proofs.certify.read_certificate.Goals as goal

pub returns-in-Ok-clause-spelled : goal.returns-in-Ok-clause-spelled
returns-in-Ok-clause-spelled c = record { within = c.in-Ok.ensures.small; written = c.in-Ok.ensures.written; spelled = c.in-Ok.ensures.value }
