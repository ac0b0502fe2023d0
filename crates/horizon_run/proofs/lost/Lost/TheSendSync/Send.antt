use denote.Param.Send.{IsSend}
use Rattle.horizon_run.specs.contracts.lost.Lost.{the_row}

-- a value of no bytes that owns nothing
pub send : IsSend the_row
send = record { owned = λ l vs. ((λ vss. (tt, ((λ uss. (tt, tt)), tt))), tt); leaving = λ k d w. tt }
