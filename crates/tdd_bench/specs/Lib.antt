pub mod PlanResults
