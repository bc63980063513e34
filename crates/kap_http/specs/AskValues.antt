-- What is asked of the service, as definitions speak of it, and what holds of each.
use Rattle.std.specs.Prelude.{ℕ, ◌≤◌, Bool, not, ◌&&◌, List, length, IsTrue}
use Rattle.kap_base.specs.declared.limits.TheConstants.{SCRIPT_LIMIT}
use Rattle.kap_base.specs.Texts.{is_empty, is_line, is_task_id}
use Rattle.kap_http.specs.declared.ask.Precision.{Precision}
use Rattle.kap_http.specs.declared.ask.TaskAct.{TaskAct}
use Rattle.kap_http.specs.declared.limits.TheConstants.{HEAD_LIMIT, WRITE_LIMIT}

-- points to be written
pub record WriteValue : Type 0 where
  pub db : List ℕ
  pub rp : List ℕ
  pub precision : Precision
  pub body : List ℕ

-- a database, a retention policy and a body that can be read: names on one line, the database's not empty
pub record IsWrite (w : WriteValue) : Type 0 where
  pub db_name : IsTrue (is_line w.db && not (is_empty w.db))
  pub rp_name : IsTrue (is_line w.rp)
  pub db_len : length w.db ≤ HEAD_LIMIT
  pub rp_len : length w.rp ≤ HEAD_LIMIT
  pub body_len : length w.body ≤ WRITE_LIMIT

-- a task to be defined
pub record DefineValue : Type 0 where
  pub id : List ℕ
  pub script : List ℕ
  pub enabled : Bool

-- a task that can be defined: an id of a task, and a script that is not too long
pub record IsDefine (d : DefineValue) : Type 0 where
  pub id : IsTrue (is_task_id d.id)
  pub script : length d.script ≤ SCRIPT_LIMIT

-- a task, by its id, and what is to be done with it
pub record TaskValue : Type 0 where
  pub id : List ℕ
  pub act : TaskAct

-- the id is no longer than a target
pub record IsTask (t : TaskValue) : Type 0 where
  pub id : length t.id ≤ HEAD_LIMIT

-- a topic, by its name
pub record TopicValue : Type 0 where
  pub name : List ℕ

-- the name is no longer than a target
pub record IsTopic (t : TopicValue) : Type 0 where
  pub name : length t.name ≤ HEAD_LIMIT
