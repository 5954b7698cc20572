-- What the parts of a query ask of an array form.
use Rattle.std.specs.Prelude.{ℕ, suc, ◌+◌, ◌-◌, ◌≤◌, ◌<◌, length, get_or}
use Rattle.graphs.specs.ArrayForm.{ArrayForm}

-- Sizes within the limits, and as many first positions as stated.
pub record Bounded (a : ArrayForm) : Type 0 where
  pub few_vertices : a.n ≤ 1000
  pub few_edges : a.m ≤ 4000
  pub long_firsts : a.n + 1 ≤ length a.firsts

-- A query that is taken: the first positions of u and of the next element are read, and a part of the tails lies between them.
pub record Asked (a : ArrayForm) (u : ℕ) : Type 0 where
  pub vertex : 1 ≤ u
  pub second : u < length a.firsts
  pub low : 1 ≤ get_or a.firsts (u - 1) 0
  pub rises : get_or a.firsts (u - 1) 0 ≤ get_or a.firsts u 0
  pub high : get_or a.firsts u 0 ≤ suc a.m
  pub long_tails : a.m ≤ length a.tails
