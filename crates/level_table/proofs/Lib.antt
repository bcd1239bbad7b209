mod Rows
mod Found
mod Equal
mod Variables
mod Visits
