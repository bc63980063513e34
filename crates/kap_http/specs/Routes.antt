-- What a request asks: by its path, then by its method, then by what stands in its target and its body.
use Rattle.std.specs.Prelude.{ℕ, List, Option, Some, None, Result, Ok, Err, codes, bytes_eq, if◌then◌else◌}
use Rattle.std.specs.Str.{is_utf8}
use Rattle.form_urlencoded.specs.Form.{raw_pairs}
use Rattle.percent_encoding.specs.Percent.{percent_decode}
use Rattle.kap_base.specs.Words.{◌>>=◌}
use Rattle.kap_base.specs.Texts.{is_empty, is_line}
use Rattle.kap_http.specs.declared.ask.Ask.{Ask}
use Rattle.kap_http.specs.declared.ask.Ask.TheVariants as asks
use Rattle.kap_http.specs.declared.ask.Precision.{Precision}
use Rattle.kap_http.specs.declared.ask.Precision.TheVariants as precisions
use Rattle.kap_http.specs.declared.ask.TaskAct.{TaskAct}
use Rattle.kap_http.specs.declared.ask.TaskAct.TheVariants as acts
use Rattle.kap_http.specs.declared.method.Method.{Method}
use Rattle.kap_http.specs.declared.method.Method.TheVariants as methods
use Rattle.kap_http.specs.declared.path.Place.{Place}
use Rattle.kap_http.specs.declared.path.Place.TheVariants as places
use Rattle.kap_http.specs.declared.refusal.Refusal.{Refusal}
use Rattle.kap_http.specs.declared.refusal.Refusal.TheVariants as refusals
use Rattle.kap_http.specs.AskValues.{WriteValue}
use Rattle.kap_http.specs.Bodies.{act_of, definition_of, set_of}
use Rattle.kap_http.specs.Paths.{path_of, query_of, way_of, Way}
use Rattle.kap_http.specs.Queries.{value_of}
use Rattle.kap_http.specs.RequestValues.{RequestValue}

-- what is asked, or why it is refused
abbrev pub AskResult : Type 0
AskResult = Result Ask Refusal

-- the method of this name; its letters have their case
abbrev pub method_of : List ℕ → Method
method_of name =
    if bytes_eq name (codes "GET") then methods.Get
    else if bytes_eq name (codes "HEAD") then methods.Head
    else if bytes_eq name (codes "POST") then methods.Post
    else if bytes_eq name (codes "PATCH") then methods.Patch
    else if bytes_eq name (codes "DELETE") then methods.Delete
    else methods.Other

-- ---- writing

-- the precision of this name: nanoseconds where there is none
abbrev pub precision_of : List ℕ → Result Precision Refusal
precision_of name =
    if is_empty name then Ok precisions.Ns
    else if bytes_eq name (codes "ns") then Ok precisions.Ns
    else if bytes_eq name (codes "n") then Ok precisions.Ns
    else if bytes_eq name (codes "u") then Ok precisions.Us
    else if bytes_eq name (codes "ms") then Ok precisions.Ms
    else if bytes_eq name (codes "s") then Ok precisions.S
    else if bytes_eq name (codes "m") then Ok precisions.M
    else if bytes_eq name (codes "h") then Ok precisions.H
    else Err refusals.BadPrecision

-- the name of a database or a policy: UTF-8 without a line feed
abbrev pub line_of : List ℕ → Result (List ℕ) Refusal
line_of name = if is_line name then Ok name else Err refusals.BadName

-- the name of a database, which isn't empty
abbrev pub database_of : List ℕ → Result (List ℕ) Refusal
database_of name = if is_empty name then Err refusals.DbMissing else line_of name

-- what is to be written, by the pairs of the query
unfoldable pub write_of : List (List ℕ × List ℕ) → List ℕ → Result WriteValue Refusal
write_of pairs body = do
  db ← database_of (value_of (codes "db") pairs)
  rp ← line_of (value_of (codes "rp") pairs)
  precision ← precision_of (value_of (codes "precision") pairs)
  Ok (record { db = db; rp = rp; precision = precision; body = body })

-- ---- names in paths

-- what a part of a path names, where that is UTF-8
abbrev pub name_of : Refusal → List ℕ → Result (List ℕ) Refusal
name_of refusal part = if is_utf8 (percent_decode part) then Ok (percent_decode part) else Err refusal

-- a task, and what is to be done with it
abbrev pub task_of : TaskAct → List ℕ → AskResult
task_of act part = do
  id ← name_of refusals.NoTask part
  Ok (asks.Task (record { id = id; act = act }))

-- ---- by path and method

-- what a ping asks: a GET or a HEAD, no other method
abbrev pub ping_ask : Method → AskResult
ping_ask methods.Get = Ok asks.Ping
ping_ask methods.Head = Ok asks.Ping
ping_ask _ = Err refusals.NoMethod

-- what is asked where points are written: to write those of the body, by POST
abbrev pub write_ask : Method → List ℕ → List ℕ → AskResult
write_ask methods.Post query body = do
  write ← write_of (raw_pairs query) body
  Ok (asks.Write write)
write_ask _ query body = Err refusals.NoMethod

-- what is asked of all tasks: to list them, by GET, or to define the one in the body, by POST
abbrev pub tasks_ask : Method → List ℕ → AskResult
tasks_ask methods.Get body = Ok asks.Tasks
tasks_ask methods.Post body = do
  task ← definition_of body
  Ok (asks.Define task)
tasks_ask _ body = Err refusals.NoMethod

-- what is asked of the task that this part names: GET shows it, PATCH sets its status, DELETE deletes it
abbrev pub task_ask : Method → List ℕ → List ℕ → AskResult
task_ask methods.Get part body = task_of acts.Show part
task_ask methods.Patch part body = do
  enabled ← set_of body
  task_of (act_of enabled) part
task_ask methods.Delete part body = task_of acts.Delete part
task_ask _ part body = Err refusals.NoMethod

-- what is asked of all topics: to list them, by GET
abbrev pub topics_ask : Method → AskResult
topics_ask methods.Get = Ok asks.Topics
topics_ask _ = Err refusals.NoMethod

-- what is asked of the topic that this part names: to show it, by GET
abbrev pub topic_ask : Method → List ℕ → AskResult
topic_ask methods.Get part = do
  name ← name_of refusals.NoPath part
  Ok (asks.Topic (record { name = name }))
topic_ask _ part = Err refusals.NoMethod

-- what is asked at a place
abbrev pub ask_at : Place → Method → List ℕ → RequestValue → AskResult
ask_at places.Ping method part r = ping_ask method
ask_at places.Write method part r = write_ask method (query_of r.target) r.body
ask_at places.Tasks method part r = tasks_ask method r.body
ask_at places.Task method part r = task_ask method part r.body
ask_at places.Topics method part r = topics_ask method
ask_at places.Topic method part r = topic_ask method part

-- what a request asks at the place its path leads to; it is refused where there is no such place
abbrev pub ask_on : Option Way → RequestValue → AskResult
ask_on None r = Err refusals.NoPath
ask_on (Some way) r = ask_at way.0 (method_of r.method) way.1 r

-- what a request asks
unfoldable pub ask_of : RequestValue → AskResult
ask_of r = ask_on (way_of (path_of r.target)) r
