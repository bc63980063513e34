-- What has a number may go to another thread where it may without.
use denote.RattleType.{RattleType}
use denote.Param.Send.{IsSend, struct_send, recorded_send, sendable}
use denote.Struct.Declared as Declared
use Rattle.flow_core.specs.contracts.lives.Numbered as Numbered

pub Numbered_send : (L : RattleType) → IsSend L → IsSend (Numbered.the_row L)
Numbered_send L s = recorded_send (Numbered.the_field L).row _ _ (Numbered.the_type L).to_one (struct_send (Declared.shape (Numbered.the_type L)) (search sendable, (s, tt)))
