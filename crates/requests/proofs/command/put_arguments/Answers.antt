use Rattle.requests.proofs.command.put_arguments.Goals as goal

pub returns-in-Prove : goal.returns-in-Prove
returns-in-Prove c = rw c.in-Prove.is c.put-in-Prove.ensures
