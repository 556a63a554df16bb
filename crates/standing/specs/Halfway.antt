-- Halfway down a file: what has been read so far, with what is still to be read, is what the file says.
-- Assumes nothing.
use Rattle.std.specs.Prelude.{ℕ, List}
use Rattle.study.specs.Reading.{Draft}
use Rattle.tables.specs.Tables.{ActionTables, Tables, tables}
use Rattle.tables.specs.Rows.{Row, count_column, start_column, goal_column}
use Rattle.advancing.specs.declared.Progress.{Progress}
use Rattle.standing.specs.Reads.{Stands, Reached}

-- the draft that the tables, with where each crew begins, hold at a place
pub record Halfway (file : List ℕ) (t : Tables) (begins : List ℕ) (p : Progress) : Type 0 where
  pub draft : Draft
  pub reached : Reached file p.at draft
  pub stands : Stands file p t begins draft

-- the rows of the variables, beside any tables of actions
abbrev pub beside : List Row → ActionTables → Tables
beside rows acts = tables (count_column rows) acts (start_column rows) (goal_column rows)
